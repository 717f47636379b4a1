-- Chosen reports are sound on logs that keep the order of their queues.
use Rattle.std.proofs.Common.{◌≡◌, ℕ, zero, ◌<◌, ◌≤◌, nat_lt, Bool, true, false, cond, ℤ, ◌≤ℤ◌, ◌<ℤ◌, int_lt, List}
use Rattle.std.proofs.Common.{[], ◌∷◌, ◌++◌, length, refl, ap, sym, ◌∙◌, subst, arith, length-append, ◌⊎◌, inl, inr}
use Rattle.std.specs.List.{AllByRecursion, Contains, filter}
use Rattle.std.proofs.lemmas.Bool.Decides.{nat_tests}
use Rattle.std.proofs.lemmas.Int.{ints}
use Rattle.std.proofs.lemmas.List.Elements.{Contains-append_right}
use Rattle.log_entries.specs.declared.setup.Setup.{Setup}
use Rattle.log_entries.specs.States.{State}
use Rattle.log_reading.specs.Grants.{stays}
use Rattle.log_reading.specs.declared.grant.Stay.{Stay}
use Rattle.late_cert.specs.Lateness.{own_lateness}
use Rattle.log_reading.specs.Ordered.{AllKeepOrder, HaveArrived}
use Rattle.late_cert.specs.Reports.{is_within, IsCritical, IsSoundReport, IsChosenReport}
use Rattle.late_cert.specs.declared.report.Report.{Report}
use Rattle.late_cert.proofs.Cuts.{cut_from, last_cut-walk}
use Rattle.late_cert.proofs.Fair.{AreFair, RisesFrom, rises_lower, fair_after, rises_after}
use Rattle.base_lists.proofs.Members.{all_weaker, all_append}
use Rattle.log_reading.specs.Windows.{Window}

rises_front : (n : ℕ) (xs ys : List Stay) → RisesFrom n (xs ++ ys) → RisesFrom n xs
rises_front n [] ys rises = tt
rises_front n (x ∷ xs) ys rises = (rises.0, rises_front x.slot xs ys rises.1)

-- a cut is the first one, or the slot of one of the stays
cut_cases : (due : ℤ) (acc n : ℕ) (ss : List Stay) → RisesFrom n ss → (cut_from due acc ss ≡ acc) ⊎ (n < cut_from due acc ss)
cut_cases due acc n [] rises = inl refl
cut_cases due acc n (s ∷ ss) rises = go (int_lt due s.due) (λ k. cut_cases due k s.slot ss rises.1)
  where
    go : (b : Bool) → ((k : ℕ) → (cut_from due k ss ≡ k) ⊎ (s.slot < cut_from due k ss))
        → (cut_from due (cond b s.slot acc) ss ≡ acc) ⊎ (n < cut_from due (cond b s.slot acc) ss)
    go true rest = let h = rises.0 in elim (rest s.slot) [ inl same ↦ inr (omega arith) | inr more ↦ inr (omega arith) ]
    go false rest = let h = rises.0 in elim (rest acc) [ inl same ↦ inl same | inr more ↦ inr (omega arith) ]

-- a cut lies before what follows the stays
cut_below : (due : ℤ) (acc : ℕ) (earlier : List Stay) (stay : Stay) (later : List Stay) → RisesFrom acc (earlier ++ stay ∷ later)
    → cut_from due acc earlier < stay.slot
cut_below due acc [] stay later rises = rises.0
cut_below due acc (s ∷ ss) stay later rises = go (int_lt due s.due) (λ k r. cut_below due k ss stay later r)
  where
    go : (b : Bool) → ((k : ℕ) → RisesFrom k (ss ++ stay ∷ later) → cut_from due k ss < stay.slot) → cut_from due (cond b s.slot acc) ss < stay.slot
    go true rest = rest s.slot rises.1
    go false rest = rest acc (rises_lower s.slot acc (ss ++ stay ∷ later) (let h = rises.0 in omega arith) rises.1)

-- a stay is due no later, and joined after a cut
record IsUrgent (due : ℤ) (after : ℕ) (s : Stay) : Type 0 where
  due_by : s.due ≤ℤ due
  joined : 0 < after → after < s.joined

-- stays with slots past the end aren't critical
none_past : (due : ℤ) (after to n : ℕ) (ss : List Stay) → to ≤ n → RisesFrom n ss → AllByRecursion (IsUrgent due after) (filter (is_within after to) ss)
none_past due after to n [] le rises = tt
none_past due after to n (s ∷ ss) le rises = go (is_within after to s) refl (none_past due after to s.slot ss (let h = rises.0 in omega arith) rises.1)
  where
    outside : is_within after to s ≡ true → to < s.slot → ⊥
    outside e h = grind (arith, nat_tests)

    go : (b : Bool) → is_within after to s ≡ b → AllByRecursion (IsUrgent due after) (filter (is_within after to) ss)
        → AllByRecursion (IsUrgent due after) (cond b (s ∷ filter (is_within after to) ss) (filter (is_within after to) ss))
    go false e rest = rest
    go true e rest = let h = rises.0 in absurd (outside e (omega arith))

-- the critical ones from a first cut on, after which each stay joined that is due in time
tight : (due : ℤ) (acc : ℕ) (earlier : List Stay) (stay : Stay) (later : List Stay) → stay.due ≡ due → RisesFrom acc (earlier ++ stay ∷ later)
    → AreFair (earlier ++ stay ∷ later)
    → AllByRecursion (λ s. s.due ≤ℤ due → 0 < acc → acc < s.joined) (earlier ++ stay ∷ later)
    → AllByRecursion (IsUrgent due (cut_from due acc earlier)) (filter (is_within (cut_from due acc earlier) stay.slot) (earlier ++ stay ∷ later))
tight due acc [] stay later is_due rises fair joined = go (is_within acc stay.slot stay)
  where
    go : (b : Bool) → AllByRecursion (IsUrgent due acc) (cond b (stay ∷ filter (is_within acc stay.slot) later) (filter (is_within acc stay.slot) later))
    go true = (record { due_by = by_due; joined = joined.0 by_due }, none_past due acc stay.slot stay.slot later (omega arith) rises.1)
      where
        by_due : stay.due ≤ℤ due
        by_due = omega (arith, ints)
    go false = none_past due acc stay.slot stay.slot later (omega arith) rises.1
tight due acc (s ∷ ss) stay later is_due rises fair joined =
    by_due (int_lt due s.due) refl (λ k r j. tight due k ss stay later is_due r fair.1 j)
  where
    rises_ss : RisesFrom s.slot ss
    rises_ss = rises_front s.slot ss (stay ∷ later) rises.1

    later_joined : due <ℤ s.due → (u : Stay) → (u.joined ≤ s.slot → s.due ≤ℤ u.due) → u.due ≤ℤ due → s.slot < u.joined
    later_joined over u fair_one in_time = by_test (nat_lt s.slot u.joined) refl
      where
        by_test : (b : Bool) → nat_lt s.slot u.joined ≡ b → s.slot < u.joined
        by_test true e = grind (arith, nat_tests)
        by_test false e = let low : u.joined ≤ s.slot = grind (arith, nat_tests) in let due_order = fair_one low in absurd (omega (arith, ints))

    with_first : (cut : ℕ) → (is_within cut stay.slot s ≡ true → IsUrgent due cut s) → (b : Bool) → is_within cut stay.slot s ≡ b
        → AllByRecursion (IsUrgent due cut) (filter (is_within cut stay.slot) (ss ++ stay ∷ later))
        → AllByRecursion (IsUrgent due cut) (cond b (s ∷ filter (is_within cut stay.slot) (ss ++ stay ∷ later))
        (filter (is_within cut stay.slot) (ss ++ stay ∷ later)))
    with_first cut first true e rest = (first e, rest)
    with_first cut first false e rest = rest

    after_cut : (cut : ℕ) → is_within cut stay.slot s ≡ true → cut < s.slot
    after_cut cut e = grind (arith, nat_tests)

    in_time : int_lt due s.due ≡ false → s.due ≤ℤ due
    in_time e = grind (arith, ints)

    over_time : int_lt due s.due ≡ true → due <ℤ s.due
    over_time e = grind (arith, ints)

    by_due : (b : Bool) → int_lt due s.due ≡ b
        → ((k : ℕ) → RisesFrom k (ss ++ stay ∷ later) → AllByRecursion (λ u. u.due ≤ℤ due → 0 < k → k < u.joined) (ss ++ stay ∷ later)
        → AllByRecursion (IsUrgent due (cut_from due k ss)) (filter (is_within (cut_from due k ss) stay.slot) (ss ++ stay ∷ later)))
        → AllByRecursion (IsUrgent due (cut_from due (cond b s.slot acc) ss))
        (filter (is_within (cut_from due (cond b s.slot acc) ss) stay.slot) (s ∷ (ss ++ stay ∷ later)))
    by_due true e rest =
        let late : s.slot ≤ cut_from due s.slot ss = elim (cut_cases due s.slot s.slot ss rises_ss) [ inl same ↦ omega arith | inr more ↦ omega arith ] in
        with_first (cut_from due s.slot ss) (λ within. let h = after_cut (cut_from due s.slot ss) within in
        absurd (omega arith)) (is_within (cut_from due s.slot ss) stay.slot s) refl
        (rest s.slot rises.1 (all_weaker (λ u. u.joined ≤ s.slot → s.due ≤ℤ u.due) (λ u. u.due ≤ℤ due → 0 < s.slot
        → s.slot < u.joined) (λ u fair_one in_time some. later_joined (over_time e) u fair_one in_time) (ss ++ stay ∷ later) fair.0))
    by_due false e rest =
        with_first (cut_from due acc ss)
        (λ within.
        let h = after_cut (cut_from due acc ss) within in
        record {
          due_by = in_time e;
          joined = λ some. elim (cut_cases due acc s.slot ss rises_ss) [
            | inl same ↦ (let j = joined.0 (in_time e) (omega arith) in
                omega arith)
            | inr more ↦ absurd (omega arith)
          ];
        })
        (is_within (cut_from due acc ss) stay.slot s) refl
        (rest acc (rises_lower s.slot acc (ss ++ stay ∷ later) (let h = rises.0 in omega arith) rises.1) joined.1)

-- the cut at 0 asks nothing
after_none : (due : ℤ) (ss : List Stay) → AllByRecursion (λ s. s.due ≤ℤ due → 0 < 0 → 0 < s.joined) ss
after_none due [] = tt
after_none due (s ∷ ss) = ((λ in_time some. absurd (omega arith)), after_none due ss)

-- the stay between two lists is one of all
contains_middle : (earlier : List Stay) (stay : Stay) (later : List Stay) → Contains (earlier ++ stay ∷ later) stay
contains_middle earlier stay later = Contains-append_right earlier (stay ∷ later) stay (zero, omega arith, refl)

-- the theorem of chosen reports
pub chosen_sound : (setup : Setup) (start : State) (log : Window) (r : Report) → HaveArrived log.base [] start.rows → AllKeepOrder setup start log.entries
    → IsChosenReport log r → IsSoundReport log r
chosen_sound setup start log r arrived keep chosen =
    let ss = stays log r.queue r.class in
    let w = chosen.worst in
    let fair : AreFair ss = fair_after log.base setup r.queue r.class [] log.entries start arrived keep in
    let rises : RisesFrom 0 ss = rises_after log.base r.queue r.class [] log.entries in
    let fair_parts : AreFair (w.earlier ++ w.stay ∷ w.later) = subst AreFair w.parts fair in
    let rises_parts : RisesFrom 0 (w.earlier ++ w.stay ∷ w.later) = subst (RisesFrom 0) w.parts rises in
    let urgent : AllByRecursion (IsUrgent r.due (cut_from r.due 0 w.earlier))
    (filter (is_within (cut_from r.due 0 w.earlier) w.stay.slot) (w.earlier ++ w.stay ∷ w.later)) =
    tight r.due 0 w.earlier w.stay w.later (sym w.due) rises_parts fair_parts (after_none r.due (w.earlier ++ w.stay ∷ w.later)) in
    let cut : r.after ≡ cut_from r.due 0 w.earlier = w.after ∙ last_cut-walk r.due w.earlier in
    let low : cut_from r.due 0 w.earlier < w.stay.slot = cut_below r.due 0 w.earlier w.stay w.later rises_parts in
    let more : 0 < length (w.earlier ++ w.stay ∷ w.later) = omega (arith, length-append w.earlier (w.stay ∷ w.later)) in
    record {
      granted = chosen.granted;
      some = subst (λ n. 0 < n) (sym (chosen.granted ∙ ap length w.parts)) more;
      bounded = subst (AllByRecursion (λ s. own_lateness log s ≤ℤ r.worst)) (sym w.parts)
          (all_append (λ s. own_lateness log s ≤ℤ r.worst) w.earlier (w.stay ∷ w.later)
          (all_weaker (λ s. own_lateness log s <ℤ r.worst) (λ s. own_lateness log s ≤ℤ r.worst) (λ s h. omega (arith, ints)) w.earlier w.less)
          (at_most (own_lateness log w.stay) r.worst w.late, w.not_more));
      worst = record {
        stay = w.stay;
        member = subst (λ l. Contains l w.stay) (sym w.parts) (contains_middle w.earlier w.stay w.later);
        slot = sym w.slot;
        due = sym w.due;
        late = w.late;
      };
      before = subst (λ n. n < r.to) (sym cut) (subst (λ n. cut_from r.due 0 w.earlier < n) (sym w.slot) low);
      listed = chosen.critical;
      critical = subst (AllByRecursion (IsCritical r)) (sym chosen.critical)
          (subst (λ l. AllByRecursion (IsCritical r) (filter (is_within r.after r.to) l)) (sym w.parts)
          (subst (λ n. AllByRecursion (IsCritical r) (filter (is_within r.after n) (w.earlier ++ w.stay ∷ w.later))) (sym w.slot)
          (subst (λ n. AllByRecursion (IsCritical r) (filter (is_within n w.stay.slot) (w.earlier ++ w.stay ∷ w.later))) (sym cut)
          (all_weaker (IsUrgent r.due (cut_from r.due 0 w.earlier)) (IsCritical r)
          (λ s u. record { due = u.due_by; joined = subst (λ n. 0 < n → n < s.joined) (sym cut) u.joined })
          (filter (is_within (cut_from r.due 0 w.earlier) w.stay.slot) (w.earlier ++ w.stay ∷ w.later)) urgent))));
    }
  where
    at_most : (a b : ℤ) → a ≡ b → a ≤ℤ b
    at_most a b e = omega (arith, ints)
