use Rattle.std.proofs.Common.{◌≡◌}
use Rattle.test_queues.proofs.waiting.take_forty.Given as goal

abbrev pub invariant-loop-taken : goal.invariant-loop-taken
invariant-loop-taken g l = l.waiting.servers ≡ 2
