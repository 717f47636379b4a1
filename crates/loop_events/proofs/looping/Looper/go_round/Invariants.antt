use Rattle.std.proofs.Common.{◌≡◌, [], None}
use Rattle.loop_shared.specs.Looks.{OwesNoLook}
use Rattle.loop_events.proofs.looping.Looper.go_round.Given as goal

-- no look is owed, and nobody waits for his turn
abbrev pub invariant-loop : goal.invariant-loop
invariant-loop g l = OwesNoLook l.self.gate.woken × (l.self.agenda.soon ≡ []) × (l.self.freed ≡ None)
