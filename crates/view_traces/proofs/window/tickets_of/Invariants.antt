use Rattle.std.proofs.Common.{◌≡◌, map, take}
use Rattle.view_traces.specs.Windows.{ticket_of}
use Rattle.view_traces.proofs.window.tickets_of.Given as goal

-- the tickets so far
abbrev pub invariant-loop-stay : goal.invariant-loop-stay
invariant-loop-stay l = l.tickets.items ≡ map ticket_of (take l.stay-index l.stays)
