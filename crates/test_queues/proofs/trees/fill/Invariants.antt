use Rattle.std.proofs.Common.{◌≡◌, ◌+◌, ◌<◌, ◌≤◌}
use Rattle.std.specs.List.{AllByRecursion}
use Rattle.test_queues.proofs.trees.fill.Given as goal

abbrev pub invariant-loop-i : goal.invariant-loop-i
invariant-loop-i g l = (l.queue.room ≡ 1000) × AllByRecursion (λ p. (l.low ≤ p.0) × (p.0 < l.low + 100)) l.queue.pairs
