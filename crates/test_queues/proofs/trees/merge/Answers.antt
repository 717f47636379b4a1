use Rattle.std.proofs.Common.{◌<◌, ◌≤◌, ℕ, nat_cmp, arith}
use Rattle.base_lists.proofs.Members.{all_weaker}
use Rattle.pend_queue.proofs.Merged.{AllByRecursion-merged}
use Rattle.test_queues.proofs.trees.merge.Goals as goal

pub returns-clause-keys : goal.returns-clause-keys
returns-clause-keys g c =
    let low = λ (p : ℕ × ℕ). (0 ≤ p.0) × (p.0 < 1000) in
    let high = λ (p : ℕ × ℕ). (1000 ≤ p.0) × (p.0 < 2000) in
    let any = λ (p : ℕ × ℕ). (0 ≤ p.0) × (p.0 < 2000) in
    rw c.merge.ensures.pairs (AllByRecursion-merged nat_cmp any _ _
    (all_weaker low any (λ p is. (omega (arith, is.0), omega (arith, is.1))) _ c.requires.keys)
    (all_weaker high any (λ p is. (omega (arith, is.0), omega (arith, is.1))) _ c.requires.other_keys))
