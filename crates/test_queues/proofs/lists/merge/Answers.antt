use Rattle.std.proofs.Common.{◌≡◌, ◌<◌, ◌≤◌, ℕ, ap, arith}
use Rattle.due_key.specs.declared.key.Key.{Key}
use Rattle.due_key.specs.Order.{key_cmp}
use Rattle.base_lists.proofs.Members.{each_at_member}
use Rattle.pend_queue.proofs.Ascending.{apart_from_members}
use Rattle.test_queues.proofs.lists.merge.Goals as goal

-- keys of different tickets are different keys
pub merge-requires-clause-apart : goal.merge-requires-clause-apart
merge-requires-clause-apart g c = apart_from_members key_cmp _ _ (λ p q first second tied.
    let same : p.0.ticket ≡ q.0.ticket = ap (λ (key : Key). key.ticket) (c.order_of_keys.ensures.exact p.0 q.0 tied) in
    let low = each_at_member (λ (p : Key × ℕ). (0 ≤ p.0.ticket) × (p.0.ticket < 100)) _ p c.requires.tickets first in
    let high = each_at_member (λ (p : Key × ℕ). (100 ≤ p.0.ticket) × (p.0.ticket < 200)) _ q c.requires.other_tickets second in
    omega (arith, low.1, high.0))
