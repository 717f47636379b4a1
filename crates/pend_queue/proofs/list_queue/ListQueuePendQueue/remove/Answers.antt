use Rattle.std.proofs.Common.{◌≡◌, Option, Some, None, option_map, refl}
use Rattle.pend_queue.proofs.Without.{IsAscending-without, IsPermutation-without}
use Rattle.pend_queue.proofs.list_queue.ListQueuePendQueue.remove.Goals as goal

-- the pairs of the fields, without the key's, are ascending
pub invariant_of-self : goal.invariant_of-self
invariant_of-self g c = rw c.take_out.ensures.items (IsAscending-without g.K.Ord.cmp _ _ c.self.invariant)

pub returns-clause-ascending : goal.returns-clause-ascending
returns-clause-ascending g c = rw c.take_out.ensures.items (IsAscending-without g.K.Ord.cmp _ _ c.self.invariant)

-- a node is its pair
node_is_pair : {X : Type 0} (o : Option X) → option_map (λ node. node) o ≡ o
node_is_pair None = refl
node_is_pair (Some x) = refl

pub returns-clause-permutation : goal.returns-clause-permutation
returns-clause-permutation g c = rw (node_is_pair c.take_out.result, c.take_out.ensures.value, c.take_out.ensures.items, ← c.self.view_is)
    (IsPermutation-without g.met.K.Ord.total _ _ c.self.invariant)
