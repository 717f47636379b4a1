use Rattle.std.proofs.Common.{◌≡◌, length}
use Rattle.test_queues.proofs.trees.drain.Given as goal

abbrev pub invariant-loop-node : goal.invariant-loop-node
invariant-loop-node g l = g.Q.PendQueue.room l.queue ≡ g.Q.PendQueue.room l.initial.queue

abbrev pub decreases-loop-node : goal.decreases-loop-node
decreases-loop-node g l = length (g.Q.PendQueue.pairs l.queue)
