use Rattle.binom_queue.specs.Trees.{trees}
use Rattle.binom_queue.proofs.search.+least_with.Given as goal

abbrev pub decreases-least_with : goal.decreases-least_with
decreases-least_with g l = trees l.roots.now
