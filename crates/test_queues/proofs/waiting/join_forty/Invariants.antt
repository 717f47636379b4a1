use Rattle.std.proofs.Common.{◌≡◌, ◌+◌, ◌<◌, ◌≤◌, ℕ, None, Some, slice_get}
use Rattle.queue_waits.specs.declared.waiters.Waiter.{Waiter}
use Rattle.queue_waits.specs.Waitlists.{WaitsAt}
use Rattle.test_queues.proofs.waiting.join_forty.Given as goal

-- the places from this one on are vacant, and each ticket tells its place
abbrev pub invariant-loop-place : goal.invariant-loop-place
invariant-loop-place g l = record {
  servers : l.waiting.servers ≡ 2;
  vacant : (p : ℕ) → l.place ≤ p → p < 40 → slice_get l.waiting.waiters p ≡ Some None;
  tickets : (p : ℕ) (w : Waiter) → WaitsAt l.waiting.waiters p w → (p < l.place) × (w.key.ticket + p ≡ 40);
}
