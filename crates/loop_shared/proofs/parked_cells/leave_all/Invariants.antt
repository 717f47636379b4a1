use Rattle.std.proofs.Common.{length}
use Rattle.loop_shared.proofs.parked_cells.leave_all.Given as goal

-- one fewer each time
abbrev pub decreases-loop-cell : goal.decreases-loop-cell
decreases-loop-cell l = length l.cells.items
