-- A sound report's worst is least.
use Rattle.std.proofs.Common.{◌≡◌, ℕ, zero, suc, ◌<◌, ℤ, pos, ◌-ℤ◌, ◌≤ℤ◌, List, [], ◌∷◌, map, cond}
use Rattle.std.proofs.Common.{Bool, true, false, length, slice_index_or, refl, ap, sym, ◌∙◌, subst, arith, inl, inr}
use Rattle.std.specs.List.{AllByRecursion, filter}
use Rattle.std.specs.Int.{int_max}
use Rattle.std.proofs.lemmas.Int.{ints, clamps}
use Rattle.std.proofs.lemmas.List.Sorted.{IsPermutation-refl}
use Rattle.log_entries.specs.declared.queue.Queue.{Queue}
use Rattle.log_reading.specs.declared.grant.SlotGrant.{SlotGrant}
use Rattle.log_reading.specs.declared.grant.Stay.{Stay}
use Rattle.log_reading.specs.Grants.{is_of, grants, stays, moment_at}
use Rattle.log_reading.specs.Readable.{IsReadable}
use Rattle.log_reading.specs.Timely.{IsTimely}
use Rattle.log_reading.proofs.Moments.{moments_rise}
use Rattle.log_reading.proofs.Timely.{timely}
use Rattle.late_cert.specs.Lateness.{own_lateness, own_slots, AreAfterJoining, latenesses, greatest}
use Rattle.late_cert.specs.Reports.{IsSoundReport, IsLeast, is_within, IsCritical}
use Rattle.late_cert.specs.declared.report.Report.{Report}
use Rattle.late_cert.proofs.Exchange.{Reaches, reached_by_all}
use Rattle.log_reading.specs.Windows.{Window}

greatest_reaches : (worst : ℤ) (numbers : List ℤ) → Reaches worst numbers → worst ≤ℤ greatest numbers
greatest_reaches worst [] reached = absurd reached
greatest_reaches worst (x ∷ []) reached = elim reached [ inl here ↦ here | inr none ↦ absurd none ]
greatest_reaches worst (x ∷ y ∷ ys) reached =
    go (greatest (y ∷ ys)) reached (greatest_reaches worst (y ∷ ys))
  where
    go : (g : ℤ) → Reaches worst (x ∷ y ∷ ys) → (Reaches worst (y ∷ ys) → worst ≤ℤ g) → worst ≤ℤ int_max x g
    go g reached rest = elim reached [ inl here ↦ omega (arith, ints, clamps) | inr more ↦ let h = rest more in omega (arith, ints, clamps) ]

greatest_bounded : (worst : ℤ) (numbers : List ℤ) → 0 < length numbers → AllByRecursion (λ it. it ≤ℤ worst) numbers → greatest numbers ≤ℤ worst
greatest_bounded worst [] some all = absurd (omega arith)
greatest_bounded worst (x ∷ []) some all = all.0
greatest_bounded worst (x ∷ y ∷ ys) some all = go (greatest (y ∷ ys)) (greatest_bounded worst (y ∷ ys) (omega arith) all.1)
  where
    go : (g : ℤ) → g ≤ℤ worst → int_max x g ≤ℤ worst
    go g h = let first : x ≤ℤ worst = all.0 in omega (arith, ints, clamps)

same_order : (a b : ℤ) → a ≤ℤ b → b ≤ℤ a → a ≡ b
same_order a b h k = omega (arith, ints)

-- the log's own latenesses
bounded_own : (log : Window) (worst : ℤ) (ss : List Stay) → AllByRecursion (λ s. own_lateness log s ≤ℤ worst) ss
    → AllByRecursion (λ it. it ≤ℤ worst) (latenesses log ss (own_slots ss))
bounded_own log worst [] all = tt
bounded_own log worst (s ∷ ss) all = (all.0, bounded_own log worst ss all.1)

own_length : (log : Window) (ss : List Stay) → length (latenesses log ss (own_slots ss)) ≡ length ss
own_length log [] = refl
own_length log (s ∷ ss) = ap suc (own_length log ss)

own_reaches : (log : Window) (worst : ℤ) (ss : List Stay) (w : Stay) (k : ℕ) → k < length ss → slice_index_or ss k w ≡ w → own_lateness log w ≡ worst
    → Reaches worst (latenesses log ss (own_slots ss))
own_reaches log worst [] w k below at late = absurd (omega arith)
own_reaches log worst (s ∷ ss) w zero below at late =
    inl (let h : own_lateness log s ≡ worst = ap (own_lateness log) at ∙ late in subst (λ z. worst ≤ℤ z) (sym h) (omega (arith, ints)))
own_reaches log worst (s ∷ ss) w (suc k) below at late = inr (own_reaches log worst ss w k (omega arith) at late)

-- the log's own slots are an assignment
own_after : (log : Window) (q : Queue) (c : ℤ) (gs : List SlotGrant) → AllByRecursion (IsTimely log) gs
    → AreAfterJoining (map (λ g. g.stay) (filter (is_of q c) gs)) (own_slots (map (λ g. g.stay) (filter (is_of q c) gs)))
own_after log q c [] all = tt
own_after log q c (g ∷ gs) all = go (is_of q c g) (own_after log q c gs all.1)
  where
    go : (b : Bool) → AreAfterJoining (map (λ g. g.stay) (filter (is_of q c) gs)) (own_slots (map (λ g. g.stay) (filter (is_of q c) gs)))
        → AreAfterJoining (map (λ g. g.stay) (cond b (g ∷ filter (is_of q c) gs) (filter (is_of q c) gs)))
        (own_slots (map (λ g. g.stay) (cond b (g ∷ filter (is_of q c) gs) (filter (is_of q c) gs))))
    go true rest = (all.0.joined, rest)
    go false rest = rest

-- the theorem of least lateness
pub sound_least : (log : Window) (r : Report) → IsReadable log → IsSoundReport log r → IsLeast log r
sound_least log r readable sound =
    let ss = stays log r.queue r.class in
    let w = sound.worst in
    let k = w.member in
    let late : r.worst ≡ (pos (moment_at log.entries r.to) -ℤ r.due) = sym w.late ∙ ap (λ n. pos (moment_at log.entries n) -ℤ w.stay.due) w.slot
    ∙ ap (λ d. pos (moment_at log.entries r.to) -ℤ d) w.due in
    let critical : AllByRecursion (IsCritical r) (filter (is_within r.after r.to) ss) = subst (AllByRecursion (IsCritical r)) sound.listed sound.critical in
    let some : 0 < length ss = subst (λ n. 0 < n) sound.granted sound.some in
    record {
      own = record { rearranged = IsPermutation-refl (own_slots ss); after_joining = own_after log r.queue r.class (grants log) (timely log readable) };
      reached = same_order _ _ (greatest_bounded r.worst (latenesses log ss (own_slots ss)) (subst (λ n. 0 < n) (sym (own_length log ss)) some)
          (bounded_own log r.worst ss sound.bounded))
          (greatest_reaches r.worst (latenesses log ss (own_slots ss)) (own_reaches log r.worst ss w.stay k.0 k.1 k.2 w.late));
      least = λ slots is. greatest_reaches r.worst (latenesses log ss slots)
          (reached_by_all log r ss w.stay (λ p q le. moments_rise log readable p q le) late critical w.member w.slot sound.before slots is);
    }
