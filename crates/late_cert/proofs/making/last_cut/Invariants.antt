use Rattle.std.proofs.Common.{◌≡◌, None, drop, map}
use Rattle.std.specs.List.{last_or}
use Rattle.late_cert.specs.Reports.{slots_due_after}
use Rattle.late_cert.proofs.making.last_cut.Given as goal

abbrev pub invariant-loop-grant : goal.invariant-loop-grant
invariant-loop-grant l =
    last_or l.last (slots_due_after l.due (map (λ it. it.stay) (drop l.grant-index l.earlier)))
    ≡ last_or None (slots_due_after l.due (map (λ it. it.stay) l.earlier))
