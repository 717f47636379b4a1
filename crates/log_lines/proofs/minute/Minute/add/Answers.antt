use Rattle.std.proofs.Common.{◌∙◌, ◌/◌, ap, slice_set, w64}
use Rattle.std.proofs.lemmas.Int.{to_z-of_z}
use Rattle.log_lines.specs.Lateness.{held_of, second_index, second_at, with_slot}
use Rattle.log_lines.proofs.minute.Minute.add.Goals as goal

pub returns : goal.returns
returns c =
    let seconds = c.args.self.now in
    let number = c.args.moment / 1000 in
    c.put.ensures
    ∙ ap (λ second. slice_set seconds c.second_index-index.result second)
    (c.with.ensures ∙ ap (λ z. with_slot c.held_of.result z) (to_z-of_z w64 c.args.lateness c.ranges.lateness)
    ∙ ap (λ second. with_slot second c.args.lateness) (c.held_of.ensures ∙ ap (held_of number) c.at-second.ensures))
    ∙ ap (λ index. slice_set seconds index (with_slot (held_of number (second_at seconds index)) c.args.lateness)) c.second_index-index.ensures.index
