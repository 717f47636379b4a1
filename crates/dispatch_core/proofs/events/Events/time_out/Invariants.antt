use Rattle.std.proofs.Common.{◌≡◌, length}
use Rattle.dispatch_core.proofs.Timing.{TellsSince}
use Rattle.dispatch_core.proofs.events.Events.time_out.Given as goal

abbrev pub invariant-telling : goal.invariant-telling
invariant-telling g l = record {
  since : TellsSince l.initial.self.state l.self.state l.tickets.pairs;
  kept : l.tickets.room ≡ l.fn.tickets.room;
}

-- each timeout leaves one ticket less
abbrev pub decreases-telling : goal.decreases-telling
decreases-telling g l = length l.tickets.pairs
