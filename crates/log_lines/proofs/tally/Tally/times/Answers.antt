use Rattle.std.proofs.Common.{◌∙◌, ap, w64}
use Rattle.std.proofs.lemmas.Int.{to_z-of_z}
use Rattle.std.specs.Option.{unwrap_or}
use Rattle.log_lines.specs.Counts as counting
use Rattle.log_lines.proofs.tally.Tally.times.Goals as goal

pub returns : goal.returns
returns c =
    c.unwrap_or.ensures ∙ ap (λ found. unwrap_or found 0) c.found.ensures
    ∙ ap (λ z. counting.times c.args.self.now z) (to_z-of_z w64 c.args.number c.ranges.number)
