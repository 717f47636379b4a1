use Rattle.binom_queue.specs.Trees.{trees}
use Rattle.binom_queue.proofs.grow.+add.Given as goal

abbrev pub decreases-add : goal.decreases-add
decreases-add g l = trees l.roots
