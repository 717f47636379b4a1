-- A report passes the tests exactly where it is sound.
use Rattle.std.proofs.Common.{◌≡◌, ℕ, zero, suc, ◌-◌, ◌<◌, ◌≤◌, ◌==◌, ◌&&◌, ◌||◌, not, Bool, true}
use Rattle.std.proofs.Common.{false, cond, ℤ, pos, ◌-ℤ◌, ◌≤ℤ◌, int_lt, List, [], ◌∷◌, map, length, drop}
use Rattle.std.proofs.Common.{count_by, slice_index_or, ◌↔◌, IsTrue, Decides, refl, ap, sym, ◌∙◌, subst, arith, length-drop, nat_lt}
use Rattle.std.specs.List.{AllByRecursion, filter, list_any}
use Rattle.std.specs.Ordering.{int_eq}
use Rattle.std.proofs.lemmas.Bool.{false≢true}
use Rattle.std.proofs.lemmas.Bool.Decides.{nat_tests, Decides-and, Decides-eqb, Decides-int_eq, Decides-like}
use Rattle.std.proofs.lemmas.Int.{ints}
use Rattle.std.proofs.lemmas.List.{length-map, drop_all}
use Rattle.std.proofs.lemmas.List.Sums.{length-filter}
use Rattle.base_lists.proofs.Members.{all_decides}
use Rattle.log_reading.specs.Grants.{grants, stays}
use Rattle.log_reading.specs.Readable.{IsReadable}
use Rattle.log_reading.specs.Timely.{IsTimely}
use Rattle.log_reading.specs.declared.grant.SlotGrant.{SlotGrant}
use Rattle.log_reading.specs.declared.grant.Stay.{Stay}
use Rattle.log_reading.proofs.Timely.{timely}
use Rattle.late_cert.specs.Lateness.{own_lateness}
use Rattle.late_cert.specs.Reports.{is_within, HasWorst, IsCritical, IsSoundReport}
use Rattle.late_cert.specs.Tests.{is_about, late_by, keeps_worst, is_worst, is_listed, listed_of, is_urgent, PassesEachTest}
use Rattle.late_cert.specs.declared.report.Report.{Report}
use Rattle.log_reading.specs.Windows.{Window}

-- the stays that a report is about, among some grants
abbrev pub about : Report → List SlotGrant → List Stay
about r gs = map (λ g. g.stay) (filter (is_about r) gs)

-- a grant's lateness is that of its stay with its own slot
pub lateness_of : (log : Window) (g : SlotGrant) → IsTimely log g → own_lateness log g.stay ≡ late_by g
lateness_of log g timely = ap (λ (m : ℕ). pos m -ℤ g.stay.due) (sym timely.moment)

-- none is later than the worst
keeps_decides : (r : Report) (g : SlotGrant) → Decides (keeps_worst r g) (is_about r g ≡ true → late_by g ≤ℤ r.worst)
keeps_decides r g = go (is_about r g) (late_by g)
  where
    go : (b : Bool) (z : ℤ) → Decides (not (b && int_lt r.worst z)) (b ≡ true → z ≤ℤ r.worst)
    go true z = (λ e. λ t. grind (arith, ints), λ h. let k = h refl in grind (arith, ints))
    go false z = (λ e. λ t. cc, λ h. refl)

bounded_to : (log : Window) (r : Report) (gs : List SlotGrant) → AllByRecursion (IsTimely log) gs
    → AllByRecursion (λ g. is_about r g ≡ true → late_by g ≤ℤ r.worst) gs → AllByRecursion (λ s. own_lateness log s ≤ℤ r.worst) (about r gs)
bounded_to log r [] timely all = tt
bounded_to log r (g ∷ gs) timely all = go (is_about r g) refl (bounded_to log r gs timely.1 all.1)
  where
    go : (b : Bool) → is_about r g ≡ b → AllByRecursion (λ s. own_lateness log s ≤ℤ r.worst) (about r gs)
        → AllByRecursion (λ s. own_lateness log s ≤ℤ r.worst) (map (λ x. x.stay) (cond b (g ∷ filter (is_about r) gs) (filter (is_about r) gs)))
    go true e rest = (subst (λ z. z ≤ℤ r.worst) (sym (lateness_of log g timely.0)) (all.0 e), rest)
    go false e rest = rest

bounded_from : (log : Window) (r : Report) (gs : List SlotGrant) → AllByRecursion (IsTimely log) gs
    → AllByRecursion (λ s. own_lateness log s ≤ℤ r.worst) (about r gs) → AllByRecursion (λ g. is_about r g ≡ true → late_by g ≤ℤ r.worst) gs
bounded_from log r [] timely all = tt
bounded_from log r (g ∷ gs) timely all = go (is_about r g) refl all (bounded_from log r gs timely.1)
  where
    go : (b : Bool) → is_about r g ≡ b → AllByRecursion (λ s. own_lateness log s ≤ℤ r.worst)
        (map (λ x. x.stay) (cond b (g ∷ filter (is_about r) gs) (filter (is_about r) gs)))
        → (AllByRecursion (λ s. own_lateness log s ≤ℤ r.worst) (about r gs) → AllByRecursion (λ g. is_about r g ≡ true → late_by g ≤ℤ r.worst) gs)
        → AllByRecursion (λ g. is_about r g ≡ true → late_by g ≤ℤ r.worst) (g ∷ gs)
    go true e all rest = ((λ t. subst (λ z. z ≤ℤ r.worst) (lateness_of log g timely.0) all.0), rest all.1)
    go false e all rest = ((λ t. absurd (false≢true (sym e ∙ t))), rest all)

-- one is the worst
pub record IsWorstGrant (r : Report) (g : SlotGrant) : Type 0 where
  pub is_about : is_about r g ≡ true
  pub slot : g.stay.slot ≡ r.to
  pub due : g.stay.due ≡ r.due
  pub late : late_by g ≡ r.worst

worst_decides : (r : Report) (g : SlotGrant) → Decides (is_worst r g) (IsWorstGrant r g)
worst_decides r g =
    Decides-like (is_worst r g) (λ h. record { is_about = h.0.0.0; slot = h.0.0.1; due = h.0.1; late = h.1 }) (λ w. (((w.is_about, w.slot), w.due), w.late))
    (Decides-and (is_about r g && (g.stay.slot == r.to) && int_eq g.stay.due r.due) (int_eq (late_by g) r.worst)
    (Decides-and (is_about r g && (g.stay.slot == r.to)) (int_eq g.stay.due r.due)
    (Decides-and (is_about r g) (g.stay.slot == r.to) (λ e. e, λ e. e) (Decides-eqb g.stay.slot r.to)) (Decides-int_eq g.stay.due r.due))
    (Decides-int_eq (late_by g) r.worst))

-- one more grant in front
worst_more : (log : Window) (r : Report) (g : SlotGrant) (gs : List SlotGrant) → HasWorst log (about r gs) r → (b : Bool)
    → HasWorst log (map (λ x. x.stay) (cond b (g ∷ filter (is_about r) gs) (filter (is_about r) gs))) r
worst_more log r g gs w false = w
worst_more log r g gs w true = record {
  stay = w.stay;
  member = (suc w.member.0, omega (arith, w.member.1), w.member.2);
  slot = w.slot;
  due = w.due;
  late = w.late;
}

worst_here : (log : Window) (r : Report) (g : SlotGrant) (gs : List SlotGrant) → IsTimely log g → IsWorstGrant r g → HasWorst log (about r (g ∷ gs)) r
worst_here log r g gs timely w =
    subst (λ (b : Bool). HasWorst log (map (λ x. x.stay) (cond b (g ∷ filter (is_about r) gs) (filter (is_about r) gs))) r) (sym w.is_about)
    (record { stay = g.stay; member = (zero, omega arith, refl); slot = w.slot; due = w.due; late = lateness_of log g timely ∙ w.late })

worst_to : (log : Window) (r : Report) (gs : List SlotGrant) → AllByRecursion (IsTimely log) gs → list_any (is_worst r) gs ≡ true → HasWorst log (about r gs) r
worst_to log r [] timely e = cc
worst_to log r (g ∷ gs) timely e = go (is_worst r g) refl e (λ h. worst_more log r g gs (worst_to log r gs timely.1 h) (is_about r g))
  where
    go : (b : Bool) → is_worst r g ≡ b → (b || list_any (is_worst r) gs) ≡ true → (list_any (is_worst r) gs ≡ true → HasWorst log (about r (g ∷ gs)) r)
        → HasWorst log (about r (g ∷ gs)) r
    go true is e rest = worst_here log r g gs timely.0 ((worst_decides r g).0 is)
    go false is e rest = rest e

worst_from : (log : Window) (r : Report) (gs : List SlotGrant) → AllByRecursion (IsTimely log) gs → HasWorst log (about r gs) r
    → list_any (is_worst r) gs ≡ true
worst_from log r [] timely w = absurd (omega (arith, w.member.1))
worst_from log r (g ∷ gs) timely w = by_about (is_about r g) refl w (λ v. later (is_worst r g) (worst_from log r gs timely.1 v))
  where
    later : (b : Bool) → list_any (is_worst r) gs ≡ true → (b || list_any (is_worst r) gs) ≡ true
    later true e = refl
    later false e = e

    found : is_worst r g ≡ true → list_any (is_worst r) (g ∷ gs) ≡ true
    found e = ap (λ b. b || list_any (is_worst r) gs) e

    by_place : is_about r g ≡ true → (v : Stay) (k : ℕ) → k < length (g.stay ∷ about r gs) → slice_index_or (g.stay ∷ about r gs) k v ≡ v → v.slot ≡ r.to
        → v.due ≡ r.due → own_lateness log v ≡ r.worst
        → (HasWorst log (about r gs) r → list_any (is_worst r) (g ∷ gs) ≡ true) → list_any (is_worst r) (g ∷ gs) ≡ true
    by_place e v zero below at slot due late rest =
        found ((worst_decides r g).1 (record {
          is_about = e;
          slot = ap (λ (x : Stay). x.slot) at ∙ slot;
          due = ap (λ (x : Stay). x.due) at ∙ due;
          late = sym (lateness_of log g timely.0) ∙ ap (own_lateness log) at ∙ late;
        }))
    by_place e v (suc k) below at slot due late rest = rest (record { stay = v; member = (k, omega arith, at); slot = slot; due = due; late = late })

    by_about : (b : Bool) → is_about r g ≡ b → HasWorst log (map (λ x. x.stay) (cond b (g ∷ filter (is_about r) gs) (filter (is_about r) gs))) r
        → (HasWorst log (about r gs) r → list_any (is_worst r) (g ∷ gs) ≡ true) → list_any (is_worst r) (g ∷ gs) ≡ true
    by_about true e v rest = by_place e v.stay v.member.0 v.member.1 v.member.2 v.slot v.due v.late rest
    by_about false e v rest = rest v

-- the critical ones
listed_is : (r : Report) (gs : List SlotGrant) → filter (is_within r.after r.to) (about r gs) ≡ listed_of r gs
listed_is r [] = refl
listed_is r (g ∷ gs) = go (is_about r g) (is_within r.after r.to g.stay) refl (listed_is r gs)
  where
    go : (b w : Bool) → is_within r.after r.to g.stay ≡ w → filter (is_within r.after r.to) (about r gs) ≡ listed_of r gs
        → filter (is_within r.after r.to) (map (λ x. x.stay) (cond b (g ∷ filter (is_about r) gs) (filter (is_about r) gs)))
        ≡ map (λ x. x.stay) (cond (b && is_within r.after r.to g.stay) (g ∷ filter (is_listed r) gs) (filter (is_listed r) gs))
    go false w e rest = rest
    go true true e rest = rw e (ap (λ l. g.stay ∷ l) rest)
    go true false e rest = rw e rest

urgent_decides : (r : Report) (s : Stay) → Decides (is_urgent r s) (IsCritical r s)
urgent_decides r s = (
  λ e. record { due = grind (arith, ints, nat_tests); joined = λ some. grind (arith, ints, nat_tests) },
  λ h. by_cut (nat_lt 0 r.after) refl h,
)
  where
    by_cut : (b : Bool) → nat_lt 0 r.after ≡ b → IsCritical r s → is_urgent r s ≡ true
    by_cut true e h = let d = h.due in let j = h.joined (grind (arith, nat_tests)) in grind (arith, ints, nat_tests)
    by_cut false e h = let d = h.due in grind (arith, ints, nat_tests)

about_length : (r : Report) (gs : List SlotGrant) → length (about r gs) ≡ count_by (is_about r) gs
about_length r gs = length-map (filter (is_about r) gs) (λ g. g.stay) ∙ length-filter (is_about r) gs

-- the tests are those of a sound report
pub sound_exactly : (log : Window) (r : Report) → IsReadable log → PassesEachTest r (grants log) ↔ IsSoundReport log r
sound_exactly log r readable = (
  λ p. record {
    granted = p.granted ∙ sym (about_length r (grants log));
    some = p.some;
    bounded = bounded_to log r (grants log) (timely log readable)
        ((all_decides (keeps_worst r) (λ g. is_about r g ≡ true → late_by g ≤ℤ r.worst) (keeps_decides r) (grants log)).0 p.bounded);
    worst = worst_to log r (grants log) (timely log readable) p.worst;
    before = p.before;
    listed = p.listed ∙ sym (listed_is r (grants log));
    critical = (all_decides (is_urgent r) (IsCritical r) (urgent_decides r) r.critical).0 p.urgent;
  },
  λ s. record {
    granted = s.granted ∙ about_length r (grants log);
    some = s.some;
    bounded = (all_decides (keeps_worst r) (λ g. is_about r g ≡ true → late_by g ≤ℤ r.worst) (keeps_decides r) (grants log)).1
        (bounded_from log r (grants log) (timely log readable) s.bounded);
    worst = worst_from log r (grants log) (timely log readable) s.worst;
    before = s.before;
    listed = s.listed ∙ listed_is r (grants log);
    urgent = (all_decides (is_urgent r) (IsCritical r) (urgent_decides r) r.critical).1 s.critical;
  },
)

-- a list of stays was gone through: what is left of it is to be what is left to list
pub none_left : (P : Type 0) (r : Report) (stays : List Stay) (gs : List SlotGrant) (next index : ℕ) → next ≤ length stays → length gs ≤ index
    → ((drop next stays ≡ listed_of r (drop index gs)) ↔ P) → IsTrue (next == length stays) ↔ P
none_left P r stays gs next index below past rest = (
  λ e. rest.0 (drop_all next stays (let s = (Decides-eqb next (length stays)).0 e in omega arith) ∙ sym none),
  λ p. (Decides-eqb next (length stays)).1
      (let same : drop next stays ≡ [] = rest.1 p ∙ none in
      let long : length (drop next stays) ≡ length stays - next = length-drop next stays in
      let zero_long : length (drop next stays) ≡ 0 = ap length same in
      omega arith),
)
  where
    none : listed_of r (drop index gs) ≡ []
    none = ap (listed_of r) (drop_all index gs past)
