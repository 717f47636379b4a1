use Rattle.std.proofs.Common.{length}
use Rattle.loop_events.proofs.threads.+begin_loops.Given as goal

-- a loop fewer in each call
abbrev pub decreases-begin_loops : goal.decreases-begin_loops
decreases-begin_loops g l = length l.loops.now.items
