use Rattle.std.proofs.Common.{length}
use Rattle.test_board.proofs.seats.post_rest.Given as goal

abbrev pub decreases-loop-one : goal.decreases-loop-one
decreases-loop-one g l = length l.held.items
