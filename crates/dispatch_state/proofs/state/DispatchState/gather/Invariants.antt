use Rattle.std.proofs.Common.{◌≡◌, ◌-◌, length}
use Rattle.dispatch_state.proofs.Expiring.{HasWalked}
use Rattle.dispatch_state.proofs.state.DispatchState.gather.Given as goal

-- how far the walk has come; the queue's room stays
abbrev pub invariant-walking : goal.invariant-walking
invariant-walking g l = record {
  walked : HasWalked l.self l.self-inside.waiting.order l.self-inside.position.last l.tickets.pairs l.oldest;
  kept : l.tickets.room ≡ l.fn.tickets.room;
}

-- each step leaves one stay less to look at
abbrev pub decreases-walking : goal.decreases-walking
decreases-walking g l = length l.self-inside.waiting.order - length l.tickets.pairs
