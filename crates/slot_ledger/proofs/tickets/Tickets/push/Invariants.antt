use Rattle.std.proofs.Common.{◌≡◌}
use Rattle.slot_ledger.proofs.tickets.Tickets.push.Given as goal

-- a sweep changes nothing
abbrev pub invariant-loop : goal.invariant-loop
invariant-loop l = l.self ≡ l.fn.self
