use Rattle.std.proofs.Common.{◌≡◌, ◌<◌, ◌≤◌, ℕ, nat_cmp, refl, subst, arith}
use Rattle.std.specs.Ordering.{MatchOrdering}
use Rattle.std.proofs.lemmas.Cmp.{ranked}
use Rattle.base_lists.proofs.Members.{each_at_member}
use Rattle.pend_queue.proofs.Ascending.{apart_from_members}
use Rattle.test_queues.proofs.trees.merge_counted.Goals as goal

-- keys below 100, and keys from 100 on
pub merge_counted-requires-clause-apart : goal.merge_counted-requires-clause-apart
merge_counted-requires-clause-apart g c = apart_from_members nat_cmp _ _ (λ p q first second tied.
    let same : p.0 ≡ q.0 = subst (λ o. MatchOrdering o (p.0 < q.0) (p.0 ≡ q.0) (q.0 < p.0)) tied (ranked p.0 q.0 (nat_cmp p.0 q.0) refl) in
    let low = each_at_member (λ (p : ℕ × ℕ). (0 ≤ p.0) × (p.0 < 100)) _ p c.requires.keys first in
    let high = each_at_member (λ (p : ℕ × ℕ). (100 ≤ p.0) × (p.0 < 200)) _ q c.requires.other_keys second in
    omega (arith, low.1, high.0))
