use Rattle.std.proofs.Common.{◌≡◌, None, replicate}
use Rattle.late_cert.proofs.table.Running.new.Given as goal

abbrev pub invariant-loop : goal.invariant-loop
invariant-loop l = l.table.items ≡ replicate l.counter None
