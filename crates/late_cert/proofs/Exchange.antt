-- Why stays that need slots after a cut can't all have slots before an end: there are too few.
use Rattle.std.proofs.Common.{◌≡◌, ℕ, zero, suc, ◌+◌, ◌<◌, ◌≤◌, nat_lt, ◌&&◌, Bool, true, false, cond, ℤ, pos}
use Rattle.std.proofs.Common.{◌-ℤ◌, ◌≤ℤ◌, List, [], ◌∷◌, length, count_by, slice_index_or, refl, ap, ◌∙◌, arith, ◌⊎◌, inl, inr}
use Rattle.std.specs.List.{AllByRecursion, Contains, filter}
use Rattle.std.proofs.lemmas.Bool.Decides.{nat_tests}
use Rattle.std.proofs.lemmas.Int.{ints}
use Rattle.std.proofs.lemmas.List.Sorted.{sum_by-IsPermutation}
use Rattle.std.proofs.lemmas.List.Sums.{sum_by-cons}
use Rattle.base_lists.proofs.Places.{tally}
use Rattle.log_reading.specs.Grants.{moment_at}
use Rattle.log_reading.specs.declared.grant.Stay.{Stay}
use Rattle.late_cert.specs.Lateness.{lateness, own_slots, AreAfterJoining, latenesses, IsAssignment}
use Rattle.late_cert.specs.Reports.{is_within, IsCritical}
use Rattle.late_cert.specs.declared.report.Report.{Report}
use Rattle.log_reading.specs.Windows.{Window}

-- a slot after the cut and before the end
abbrev pub is_between : ℕ → ℕ → ℕ → Bool
is_between after to slot = nat_lt after slot && nat_lt slot to

-- of two tests of one slot, the second holds wherever the first does
between_within : (after to : ℕ) (s : Stay) → tally (is_between after to s.slot) ≤ tally (is_within after to s)
between_within after to s = grind (arith, nat_tests)

at_end : (after to : ℕ) (s : Stay) → after < to → s.slot ≡ to → tally (is_between after to s.slot) + 1 ≤ tally (is_within after to s)
at_end after to s before e = grind (arith, nat_tests)

betweens : (after to : ℕ) (ss : List Stay) → count_by (is_between after to) (own_slots ss) ≤ count_by (is_within after to) ss
betweens after to [] = omega arith
betweens after to (s ∷ ss) =
    let rest : count_by (is_between after to) (own_slots ss) ≤ count_by (is_within after to) ss = betweens after to ss in
    let one : tally (is_between after to s.slot) ≤ tally (is_within after to s) = between_within after to s in
    let left : count_by (is_between after to) (own_slots (s ∷ ss)) ≡ tally (is_between after to s.slot) + count_by (is_between after to) (own_slots ss) =
    sum_by-cons (λ n. tally (is_between after to n)) s.slot (own_slots ss) in
    let right : count_by (is_within after to) (s ∷ ss) ≡ tally (is_within after to s) + count_by (is_within after to) ss =
    sum_by-cons (λ x. tally (is_within after to x)) s ss in
    omega arith

-- where one of the stays has the end as its slot, fewer of their slots lie before it than up to it
own_fewer : (after to : ℕ) (ss : List Stay) (w : Stay) (k : ℕ) → after < to → k < length ss → slice_index_or ss k w ≡ w → w.slot ≡ to
    → count_by (is_between after to) (own_slots ss) + 1 ≤ count_by (is_within after to) ss
own_fewer after to [] w k before below at end = absurd (omega arith)
own_fewer after to (s ∷ ss) w zero before below at end =
    let rest : count_by (is_between after to) (own_slots ss) ≤ count_by (is_within after to) ss = betweens after to ss in
    let one : tally (is_between after to s.slot) + 1 ≤ tally (is_within after to s) = at_end after to s before (ap (λ (x : Stay). x.slot) at ∙ end) in
    let left : count_by (is_between after to) (own_slots (s ∷ ss)) ≡ tally (is_between after to s.slot) + count_by (is_between after to) (own_slots ss) =
    sum_by-cons (λ n. tally (is_between after to n)) s.slot (own_slots ss) in
    let right : count_by (is_within after to) (s ∷ ss) ≡ tally (is_within after to s) + count_by (is_within after to) ss =
    sum_by-cons (λ x. tally (is_within after to x)) s ss in
    omega arith
own_fewer after to (s ∷ ss) w (suc k) before below at end =
    let rest : count_by (is_between after to) (own_slots ss) + 1 ≤ count_by (is_within after to) ss = own_fewer after to ss w k before (omega arith) at end in
    let one : tally (is_between after to s.slot) ≤ tally (is_within after to s) = between_within after to s in
    let left : count_by (is_between after to) (own_slots (s ∷ ss)) ≡ tally (is_between after to s.slot) + count_by (is_between after to) (own_slots ss) =
    sum_by-cons (λ n. tally (is_between after to n)) s.slot (own_slots ss) in
    let right : count_by (is_within after to) (s ∷ ss) ≡ tally (is_within after to s) + count_by (is_within after to) ss =
    sum_by-cons (λ x. tally (is_within after to x)) s ss in
    omega arith

-- some number is at least so great
abbrev pub Reaches : ℤ → List ℤ → Type 0
Reaches worst [] = ⊥
Reaches worst (number ∷ numbers) = (worst ≤ℤ number) ⊎ Reaches worst numbers

-- a stay that is due no later is at least as late with a slot that comes no earlier
late_enough : (log : Window) (worst due : ℤ) (to slot : ℕ) (s : Stay) → worst ≡ (pos (moment_at log.entries to) -ℤ due)
    → moment_at log.entries to ≤ moment_at log.entries slot → s.due ≤ℤ due → worst ≤ℤ lateness log slot s
late_enough log worst due to slot s late later urgent = omega (arith, ints)

-- a critical stay with a slot after its joining: after the cut and before the end, or at least as late
critical_slot : (log : Window) (r : Report) (slot : ℕ) (s : Stay) → ((p q : ℕ) → p ≤ q → moment_at log.entries p ≤ moment_at log.entries q)
    → r.worst ≡ (pos (moment_at log.entries r.to) -ℤ r.due) → IsCritical r s → s.joined < slot
    → (r.worst ≤ℤ lateness log slot s) ⊎ (is_between r.after r.to slot ≡ true)
critical_slot log r slot s rises late critical after = by_test (nat_lt slot r.to) refl
  where
    past_cut : (b : Bool) → nat_lt 0 r.after ≡ b → r.after < slot
    past_cut true e = let cut = critical.joined (grind (arith, nat_tests)) in omega (arith, cut, after)
    past_cut false e = grind (arith, nat_tests)

    by_test : (b : Bool) → nat_lt slot r.to ≡ b → (r.worst ≤ℤ lateness log slot s) ⊎ (is_between r.after r.to slot ≡ true)
    by_test true e = let past : r.after < slot = past_cut (nat_lt 0 r.after) refl in inr (grind (arith, nat_tests))
    by_test false e = inl (late_enough log r.worst r.due r.to slot s late (rises r.to slot (grind (arith, nat_tests))) critical.due)

-- with slots after their joinings, one of the stays is at least so late, or enough of the slots lie after the cut and
-- before the end
reached_or_few : (log : Window) (r : Report) → ((p q : ℕ) → p ≤ q → moment_at log.entries p ≤ moment_at log.entries q)
    → r.worst ≡ (pos (moment_at log.entries r.to) -ℤ r.due)
    → (ss : List Stay) (slots : List ℕ) → AllByRecursion (IsCritical r) (filter (is_within r.after r.to) ss) → AreAfterJoining ss slots
    → Reaches r.worst (latenesses log ss slots) ⊎ (count_by (is_within r.after r.to) ss ≤ count_by (is_between r.after r.to) slots)
reached_or_few log r rises late [] [] critical after = inr (omega arith)
reached_or_few log r rises late [] (n ∷ slots) critical after = absurd after
reached_or_few log r rises late (s ∷ ss) [] critical after = absurd after
reached_or_few log r rises late (s ∷ ss) (n ∷ slots) critical after =
    by_test (is_within r.after r.to s) refl critical (λ rest. reached_or_few log r rises late ss slots rest after.1)
  where
    joined : (t : ℕ) → tally (is_within r.after r.to s) ≡ t → t ≤ tally (is_between r.after r.to n)
        → count_by (is_within r.after r.to) ss ≤ count_by (is_between r.after r.to) slots
        → count_by (is_within r.after r.to) (s ∷ ss) ≤ count_by (is_between r.after r.to) (n ∷ slots)
    joined t e le few =
        let left : count_by (is_within r.after r.to) (s ∷ ss) ≡ tally (is_within r.after r.to s) + count_by (is_within r.after r.to) ss =
        sum_by-cons (λ x. tally (is_within r.after r.to x)) s ss in
        let right : count_by (is_between r.after r.to) (n ∷ slots) ≡ tally (is_between r.after r.to n) + count_by (is_between r.after r.to) slots =
        sum_by-cons (λ x. tally (is_between r.after r.to x)) n slots in
        omega arith

    by_test : (b : Bool) → is_within r.after r.to s ≡ b
        → AllByRecursion (IsCritical r) (cond b (s ∷ filter (is_within r.after r.to) ss) (filter (is_within r.after r.to) ss))
        → (AllByRecursion (IsCritical r) (filter (is_within r.after r.to) ss)
        → Reaches r.worst (latenesses log ss slots) ⊎ (count_by (is_within r.after r.to) ss ≤ count_by (is_between r.after r.to) slots))
        → Reaches r.worst (latenesses log (s ∷ ss) (n ∷ slots)) ⊎ (count_by (is_within r.after r.to) (s ∷ ss) ≤ count_by (is_between r.after r.to) (n ∷ slots))
    by_test false e all rest = elim (rest all) [ inl reached ↦ inl (inr reached) | inr few ↦ inr (joined 0 (ap tally e) (omega arith) few) ]
    by_test true e all rest =
        elim (critical_slot log r n s rises late all.0 after.0) [
          | inl here ↦ inl (inl here)
          | inr free ↦ elim (rest all.1) [
            | inl reached ↦ inl (inr reached)
            | inr few ↦ inr
                (joined 1 (ap tally e) (let one : tally (is_between r.after r.to n) ≡ 1 = ap tally free in omega arith) few)
          ]
        ]

-- so every assignment has one that is at least so late
pub reached_by_all : (log : Window) (r : Report) (ss : List Stay) (w : Stay) → ((p q : ℕ) → p ≤ q → moment_at log.entries p ≤ moment_at log.entries q)
    → r.worst ≡ (pos (moment_at log.entries r.to) -ℤ r.due)
    → AllByRecursion (IsCritical r) (filter (is_within r.after r.to) ss) → Contains ss w → w.slot ≡ r.to → r.after < r.to
    → (slots : List ℕ) → IsAssignment ss slots → Reaches r.worst (latenesses log ss slots)
reached_by_all log r ss w rises late critical has end before slots is =
    elim (reached_or_few log r rises late ss slots critical is.after_joining) [
      | inl reached ↦ reached
      | inr few ↦
          let fewer : count_by (is_between r.after r.to) (own_slots ss) + 1 ≤ count_by (is_within r.after r.to) ss =
          own_fewer r.after r.to ss w has.0 before has.1 has.2 end in
          let same : count_by (is_between r.after r.to) slots ≡ count_by (is_between r.after r.to) (own_slots ss) =
          sum_by-IsPermutation (λ n. tally (is_between r.after r.to n)) (own_slots ss) slots is.rearranged in
          absurd (omega arith)
    ]
