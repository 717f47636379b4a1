use Rattle.std.proofs.Common.{◌∙◌, ap, w64, int_cmp}
use Rattle.std.proofs.lemmas.Int.{to_z-of_z}
use Rattle.std.specs.BTreeMap.{is_at}
use Rattle.std.specs.Map.{lookup}
use Rattle.log_lines.proofs.tally.Tally.found.Goals as goal

pub returns : goal.returns
returns c =
    c.copied.ensures ∙ c.get.ensures.value
    ∙ ap (λ z. lookup (is_at (int_cmp z)) c.self.inside.counts.entries) (to_z-of_z w64 c.args.number c.ranges.number)
    ∙ ap (λ entries. lookup (is_at (int_cmp c.args.number)) entries) c.self.view_is
