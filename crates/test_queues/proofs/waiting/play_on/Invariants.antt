use Rattle.std.proofs.Common.{◌≡◌}
use Rattle.test_queues.proofs.waiting.play_on.Given as goal

abbrev pub invariant-loop-step : goal.invariant-loop-step
invariant-loop-step g l = l.order.room ≡ l.room
