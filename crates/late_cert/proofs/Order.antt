-- The order of queues and classes, as keys are compared.
use Rattle.std.proofs.Common.{◌≡◌, ◌&&◌, true, false, ℤ, refl, arith, is_lt}
use Rattle.std.specs.Ordering.{int_cmp, int_eq, ordering_then}
use Rattle.std.specs.declared.cmp.Ordering.{Ordering}
use Rattle.std.proofs.lemmas.Bool.Decides.{nat_tests}
use Rattle.std.proofs.lemmas.Int.{ints}
use Rattle.log_entries.specs.declared.queue.Queue.{Queue}
use Rattle.log_entries.specs.declared.queue.Queue.TheVariants.{Backend, Server}
use Rattle.log_entries.specs.Rows.{queue_cmp, same_queue}
use Rattle.log_entries.specs.contracts.queue.QueueOrd.TheImpl as derived
use Rattle.log_entries.proofs.QueueOrder.{queue_order}
use Rattle.late_cert.specs.Reports.{comes_before}

-- how pairs of a queue and a class compare
abbrev pub order : Queue × ℤ → Queue × ℤ → Ordering
order a b = ordering_then (queue_cmp a.0 b.0) (int_cmp a.1 b.1)

-- what code compares such pairs by is their order
pub group_order : (λ (a b : Queue × ℤ). ordering_then (derived.ghosts.cmp a.0 b.0) (int_cmp a.1 b.1)) ≡ order
group_order = λ i a b. ordering_then (queue_order i a.0 b.0) (int_cmp a.1 b.1)

pub before_is : (p q : Queue) (a b : ℤ) → comes_before p a q b ≡ is_lt (order (p, a) (q, b))
before_is Backend Backend a b = grind (arith, ints)
before_is Backend (Server n) a b = refl
before_is (Server m) Backend a b = refl
before_is (Server m) (Server n) a b = grind (arith, ints, nat_tests)

-- of two that are not the same the second comes later where it doesn't come before
pub before_other : (p q : Queue) (a b : ℤ) → comes_before q b p a ≡ false → (same_queue p q && int_eq a b) ≡ false → comes_before p a q b ≡ true
before_other Backend Backend a b h k = grind (arith, ints)
before_other Backend (Server n) a b h k = refl
before_other (Server m) Backend a b h k = cc
before_other (Server m) (Server n) a b h k = grind (arith, ints, nat_tests)

-- neither comes before the other where they are the same alone
pub ties_same : (p q : Queue) (a b : ℤ) → comes_before p a q b ≡ false → comes_before q b p a ≡ false → (same_queue p q && int_eq a b) ≡ true
ties_same Backend Backend a b h k = grind (arith, ints)
ties_same Backend (Server n) a b h k = cc
ties_same (Server m) Backend a b h k = cc
ties_same (Server m) (Server n) a b h k = grind (arith, ints, nat_tests)

pub same_ties : (p q : Queue) (a b : ℤ) → (same_queue p q && int_eq a b) ≡ true → (comes_before p a q b ≡ false) × (comes_before q b p a ≡ false)
same_ties Backend Backend a b h = (grind (arith, ints), grind (arith, ints))
same_ties Backend (Server n) a b h = cc
same_ties (Server m) Backend a b h = cc
same_ties (Server m) (Server n) a b h = (grind (arith, ints, nat_tests), grind (arith, ints, nat_tests))

-- what comes before is an order
pub before_one_way : (p q : Queue) (a b : ℤ) → comes_before p a q b ≡ true → comes_before q b p a ≡ false
before_one_way Backend Backend a b h = grind (arith, ints)
before_one_way Backend (Server n) a b h = refl
before_one_way (Server m) Backend a b h = cc
before_one_way (Server m) (Server n) a b h = grind (arith, ints, nat_tests)

pub before_chain : (p q r : Queue) (a b c : ℤ) → comes_before p a q b ≡ false → comes_before q b r c ≡ false → comes_before p a r c ≡ false
before_chain Backend Backend Backend a b c h k = grind (arith, ints)
before_chain Backend Backend (Server l) a b c h k = cc
before_chain Backend (Server n) r a b c h k = cc
before_chain (Server m) q Backend a b c h k = refl
before_chain (Server m) Backend (Server l) a b c h k = cc
before_chain (Server m) (Server n) (Server l) a b c h k = grind (arith, ints, nat_tests)
