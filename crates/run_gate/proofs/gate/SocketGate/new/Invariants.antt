use Rattle.std.proofs.Common.{◌≡◌, None, replicate}
use Rattle.run_gate.proofs.gate.SocketGate.new.Given as goal

-- no check runs of a server so far
abbrev pub invariant-loop : goal.invariant-loop
invariant-loop g l = l.probes.items ≡ replicate l.counter None
