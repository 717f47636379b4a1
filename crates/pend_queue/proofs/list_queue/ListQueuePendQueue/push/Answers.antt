use Rattle.pend_queue.proofs.Inserted.{IsAscending-inserted, IsPermutation-inserted}
use Rattle.pend_queue.proofs.list_queue.ListQueuePendQueue.push.Goals as goal

-- the pairs of the fields, with the new one, are ascending
pub invariant_of-self : goal.invariant_of-self
invariant_of-self g c = rw c.put.ensures.items (IsAscending-inserted g.met.K.Ord.total _ _ c.self.invariant)

pub returns-clause-ascending : goal.returns-clause-ascending
returns-clause-ascending g c = rw c.put.ensures.items (IsAscending-inserted g.met.K.Ord.total _ _ c.self.invariant)

pub returns-clause-permutation : goal.returns-clause-permutation
returns-clause-permutation g c = rw (c.put.ensures.items, ← c.self.view_is)
    (IsPermutation-inserted g.K.Ord.cmp _ _ (rw (← c.self.view_is) at c.requires.absent))
