use Rattle.binom_queue.specs.Trees.{trees}
use Rattle.binom_queue.proofs.grow.+raised.Given as goal

abbrev pub decreases-raised : goal.decreases-raised
decreases-raised g l = trees l.children
