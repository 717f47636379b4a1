use Rattle.std.proofs.Common.{◌≡◌}
use Rattle.test_queues.proofs.lists.drain.Given as goal

abbrev pub invariant-loop-expected : goal.invariant-loop-expected
invariant-loop-expected g l = g.Q.PendQueue.room l.queue ≡ 8
