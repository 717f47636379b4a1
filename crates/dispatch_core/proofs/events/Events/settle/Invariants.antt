use Rattle.dispatch_state.specs.Histories.{waiting_of}
use Rattle.dispatch_core.proofs.Settling.{GrantsSince}
use Rattle.dispatch_core.proofs.events.Events.settle.Given as goal

abbrev pub invariant-granting : goal.invariant-granting
invariant-granting g l = GrantsSince l.initial.self.state l.self.state

-- each grant leaves one request less waiting
abbrev pub decreases-granting : goal.decreases-granting
decreases-granting g l = waiting_of l.self.state
