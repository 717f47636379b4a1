use Rattle.std.proofs.Common.{reverse}
use Rattle.pend_queue.proofs.Merged.{IsAscending-merged, IsPermutation-merged}
use Rattle.pend_queue.proofs.list_queue.ListQueuePendQueue.merge.Goals as goal

-- the pairs of both queues' fields are ascending
pub invariant_of-self : goal.invariant_of-self
invariant_of-self g c = rw c.move_over.ensures.items
    (IsAscending-merged g.met.K.Ord.total (reverse c.self.inside.items.items) (reverse c.other.inside.items.items) c.self.invariant)

pub returns-clause-ascending : goal.returns-clause-ascending
returns-clause-ascending g c = rw c.move_over.ensures.items
    (IsAscending-merged g.met.K.Ord.total (reverse c.self.inside.items.items) (reverse c.other.inside.items.items) c.self.invariant)

pub returns-clause-permutation : goal.returns-clause-permutation
returns-clause-permutation g c = rw (c.move_over.ensures.items, ← c.self.view_is, ← c.other.view_is)
    (IsPermutation-merged g.met.K.Ord.total (reverse c.self.inside.items.items) (reverse c.other.inside.items.items) c.other.invariant
    (rw (← c.self.view_is, ← c.other.view_is) at c.requires.apart))
