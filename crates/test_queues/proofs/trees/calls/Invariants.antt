use Rattle.std.proofs.Common.{◌≡◌, ◌<◌, ◌≤◌}
use Rattle.std.specs.List.{AllByRecursion}
use Rattle.test_queues.proofs.trees.calls.Given as goal

abbrev pub invariant-loop : goal.invariant-loop
invariant-loop g l = (g.Q.PendQueue.room l.queue ≡ 1000) × AllByRecursion (λ p. (l.range.0 ≤ p.0) × (p.0 < l.range.1)) (g.Q.PendQueue.pairs l.queue)
