use Rattle.std.proofs.Common.{length}
use Rattle.loop_shared.proofs.outside.Outside.end.Given as goal

-- one fewer each time
abbrev pub decreases-loop-stands : goal.decreases-loop-stands
decreases-loop-stands l = length l.standing.items
