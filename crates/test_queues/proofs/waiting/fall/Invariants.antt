use Rattle.std.proofs.Common.{◌≡◌}
use Rattle.test_queues.proofs.waiting.fall.Given as goal

abbrev pub invariant-loop-moved : goal.invariant-loop-moved
invariant-loop-moved g l = l.waiting.servers ≡ 2
