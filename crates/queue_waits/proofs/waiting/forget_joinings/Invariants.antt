use Rattle.std.proofs.Common.{◌≡◌}
use Rattle.base_lists.proofs.Front.{mapped_front}
use Rattle.queue_waits.specs.Waitlists.{since_before}
use Rattle.queue_waits.proofs.waiting.forget_joinings.Given as goal

-- those at the places so far joined before
abbrev pub invariant-loop-place : goal.invariant-loop-place
invariant-loop-place l = l.waiters.items ≡ mapped_front since_before l.place l.initial.waiters.items
