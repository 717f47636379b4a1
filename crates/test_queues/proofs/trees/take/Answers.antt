use Rattle.std.proofs.Common.{◌<◌, ◌≤◌, ℕ, nat_cmp}
use Rattle.pend_queue.proofs.Without.{AllByRecursion-without}
use Rattle.test_queues.proofs.trees.take.Goals as goal

pub returns-in-1-clause-keys : goal.returns-in-1-clause-keys
returns-in-1-clause-keys g c low high keys = rw c.remove.ensures.pairs
    (AllByRecursion-without nat_cmp (λ (p : ℕ × ℕ). (low ≤ p.0) × (p.0 < high)) c.args.key _ keys)
