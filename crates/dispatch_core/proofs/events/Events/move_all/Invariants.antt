use Rattle.log_entries.specs.declared.queue.Queue.TheVariants.{Server}
use Rattle.log_entries.specs.Histories.{state_of}
use Rattle.log_entries.specs.Rows.{queued}
use Rattle.dispatch_core.proofs.Emptying.{MovesSince}
use Rattle.dispatch_core.proofs.events.Events.move_all.Given as goal

abbrev pub invariant-moving : goal.invariant-moving
invariant-moving g l = MovesSince l.server l.initial.self.state l.self.state

-- each move leaves one request less in the server's queue
abbrev pub decreases-moving : goal.decreases-moving
decreases-moving g l = queued (Server l.server) (state_of l.self.state).rows
