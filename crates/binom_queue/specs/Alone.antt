-- A node that stands in no queue.
use Rattle.std.specs.Prelude.{◌≡◌}
use Rattle.binom_queue.specs.declared.forest.Forest.TheVariants.{Empty}
use Rattle.binom_queue.specs.declared.forest.Node.{Node}

-- a tree of one node
pub record IsAlone {K V : Type 0} (root : Node K V) : Type 0 where
  pub order : root.order ≡ 0
  pub child : root.child ≡ Empty
  pub next : root.next ≡ Empty
