use Rattle.std.specs.List.{IsFirstBest}
use Rattle.late_cert.specs.Groups.{is_later}
use Rattle.late_cert.proofs.making.first_latest.Given as goal

abbrev pub invariant-loop-i : goal.invariant-loop-i
invariant-loop-i l = IsFirstBest is_later l.group l.i l.best
