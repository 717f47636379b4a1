-- The reports of grants in order, group by group.
use Rattle.std.proofs.Common.{◌≡◌, ℕ, zero, suc, ◌+◌, ◌<◌, ◌≤◌, ◌||◌, Bool, true, false, cond, ℤ, pos, ◌<ℤ◌, ◌≤ℤ◌, int_lt, List, []}
use Rattle.std.proofs.Common.{◌∷◌, ◌++◌, map, take, drop, length, Option, None, Some, slice_get, get_or, IsTrue, refl, ap, sym, ◌∙◌, subst, arith}
use Rattle.std.specs.List.{AllByRecursion, filter, prefix_len}
use Rattle.std.specs.List.Sorted.{IsPermutation, IsSortedBy, IsStableBy}
use Rattle.std.proofs.lemmas.Bool.{false≢true}
use Rattle.std.proofs.lemmas.Int.{ints}
use Rattle.std.proofs.lemmas.List.{length-map, map-append, take-append-drop, get_or-take, length-take-le}
use Rattle.std.proofs.lemmas.List.Elements.{recursion_from_All, All-from_recursion, filter-append}
use Rattle.std.proofs.lemmas.List.Sorted.{All-permutation, IsPermutation-sym}
use Rattle.std.proofs.lemmas.Option.{slice_get_within, get_or_from_slice_get}
use Rattle.log_entries.specs.declared.queue.Queue.{Queue}
use Rattle.log_reading.specs.Grants.{is_of, grants}
use Rattle.log_reading.specs.Readable.{IsReadable}
use Rattle.log_reading.specs.Timely.{IsTimely}
use Rattle.log_reading.specs.declared.grant.SlotGrant.{SlotGrant}
use Rattle.log_reading.proofs.Timely.{timely}
use Rattle.late_cert.specs.Groups.{is_before, is_later, IsReportOf, AreGroups}
use Rattle.late_cert.specs.Lateness.{own_lateness}
use Rattle.late_cert.specs.Reports.{is_within, last_cut, IsChosenFor, IsChosenReport, comes_before, AreAscending, is_covered, AreReports}
use Rattle.late_cert.specs.Tests.{is_about, late_by}
use Rattle.late_cert.specs.declared.report.Report.{Report}
use Rattle.base_lists.proofs.Members.{all_weaker, all_both, all_map, all_append, all_take, all_drop, all_filter, filter_none, one_of}
use Rattle.base_lists.proofs.Places.{cut_at}
use Rattle.late_cert.proofs.Order.{before_other, same_ties}
use Rattle.late_cert.proofs.Sorted.{AreSorted, are_sorted, sorted_drop, is_of_true, is_of_own}
use Rattle.late_cert.proofs.Sorted.{NoneBefore, IsSplit, split_sorted, none_before_first, stable_filter}
use Rattle.late_cert.proofs.Sound.{lateness_of}
use Rattle.log_reading.specs.Windows.{Window}

-- ---- a group's report

-- a group more in front
pub one_more : (gs front back : List SlotGrant) (q : Queue) (c : ℤ) (n : ℕ) (r : Report) (more : List Report) → n ≡ prefix_len (is_of q c) gs → 0 < n
    → front ≡ take n gs → back ≡ drop n gs → IsReportOf front r → r.queue ≡ q → r.class ≡ c → AreGroups back more → AreGroups gs (r ∷ more)
one_more gs front back q c n r more long some is_front is_back report queue class rest =
    let same : n ≡ prefix_len (is_about r) gs = long ∙ ap (λ (p : Queue). prefix_len (is_of p c) gs) (sym queue)
    ∙ ap (λ (d : ℤ). prefix_len (is_of r.queue d) gs) (sym class) in (
      subst (λ k. 0 < k) same some,
      subst (λ k. IsReportOf (take k gs) r) same (subst (λ l. IsReportOf l r) is_front report),
      subst (λ k. AreGroups (drop k gs) more) same (subst (λ l. AreGroups l more) is_back rest),
    )

-- the first grant begins its own group
pub some_group : (gs : List SlotGrant) (g : SlotGrant) → slice_get gs 0 ≡ Some g → 0 < prefix_len (is_of g.queue g.class) gs
some_group [] g e = cc
some_group (x ∷ gs) g e =
    let same : Some x ≡ Some g = e in
    let own : is_of g.queue g.class x ≡ true = subst (λ (o : Option SlotGrant). cond_of o) (sym same) (is_of_own g) in
    subst (λ b. 0 < cond b (1 + prefix_len (is_of g.queue g.class) gs) 0) (sym own) (omega arith)
  where
    cond_of : Option SlotGrant → Type 0
    cond_of None = Unit {0}
    cond_of (Some y) = is_of g.queue g.class y ≡ true

pub no_group : (gs : List SlotGrant) → slice_get gs 0 ≡ None → gs ≡ []
no_group [] e = refl
no_group (g ∷ gs) e = cc

-- ---- the reports of sorted grants

-- a report on all the grants that it is about
pub record IsReportAmong (gs : List SlotGrant) (r : Report) : Type 0 where
  pub report : IsReportOf (filter (is_about r) gs) r
  pub some : 0 < length (filter (is_about r) gs)

pub record AreReportsAmong (gs : List SlotGrant) (rs : List Report) : Type 0 where
  pub each : AllByRecursion (IsReportAmong gs) rs
  pub ascending : AreAscending rs
  pub complete : AllByRecursion (λ g. IsTrue (is_covered rs g)) gs

comes_after : (r s : Report) (g : SlotGrant) → is_about s g ≡ true → is_about r g ≡ false → comes_before g.queue g.class r.queue r.class ≡ false
    → comes_before r.queue r.class s.queue s.class ≡ true
comes_after r s g about other none =
    let same = is_of_true s.queue s.class g about in
    let before : comes_before r.queue r.class g.queue g.class ≡ true = before_other r.queue g.queue r.class g.class none other in
    subst (λ p. comes_before r.queue r.class p s.class ≡ true) (sym same.0) (subst (λ d. comes_before r.queue r.class g.queue d ≡ true) (sym same.1) before)

-- a grant that an earlier report is about is none of a later one's
about_one : (r s : Report) (g : SlotGrant) → comes_before r.queue r.class s.queue s.class ≡ true → is_about r g ≡ true → is_about s g ≡ false
about_one r s g before about = go (is_about s g) refl
  where
    go : (b : Bool) → is_about s g ≡ b → is_about s g ≡ false
    go false e = e
    go true e =
        let x = is_of_true r.queue r.class g about in
        let y = is_of_true s.queue s.class g e in
        let k : comes_before r.queue r.class g.queue g.class ≡ true =
        subst (λ p. comes_before r.queue r.class p g.class ≡ true) y.0 (subst (λ d. comes_before r.queue r.class s.queue d ≡ true) y.1 before) in
        absurd (false≢true (sym (same_ties r.queue g.queue r.class g.class about).0 ∙ k))

covered_more : (r : Report) (rs : List Report) (g : SlotGrant) → IsTrue (is_covered rs g) → IsTrue (is_covered (r ∷ rs) g)
covered_more r rs g e = go (is_about r g)
  where
    go : (b : Bool) → (b || is_covered rs g) ≡ true
    go true = refl
    go false = e

covered_here : (r : Report) (rs : List Report) (g : SlotGrant) → is_about r g ≡ true → IsTrue (is_covered (r ∷ rs) g)
covered_here r rs g e = ap (λ b. b || is_covered rs g) e

front_some : (r : Report) (gs : List SlotGrant) (n : ℕ) → 0 < n → 0 < prefix_len (is_about r) gs → 0 < length (take n gs)
front_some r [] n some p = absurd (omega arith)
front_some r (g ∷ gs) zero some p = absurd (omega arith)
front_some r (g ∷ gs) (suc n) some p = omega arith

pub among_groups : (rs : List Report) (gs : List SlotGrant) → AreSorted gs → AreGroups gs rs → AreReportsAmong gs rs
among_groups [] gs sorted groups = record {
  each = tt;
  ascending = tt;
  complete = subst (λ l. AllByRecursion (λ g. IsTrue (is_covered [] g)) l) (sym groups) tt;
}
among_groups (r ∷ rs) gs sorted groups = go
    (among_groups rs (drop (prefix_len (is_about r) gs) gs) (sorted_drop (prefix_len (is_about r) gs) gs sorted) groups.2)
  where
    go : AreReportsAmong (drop (prefix_len (is_about r) gs) gs) rs → AreReportsAmong gs (r ∷ rs)
    go rest =
        let none : NoneBefore r.queue r.class gs = none_before_first r.queue r.class gs sorted groups.0 in
        let split : IsSplit r.queue r.class gs = split_sorted r.queue r.class gs sorted none in
        let parts : take (prefix_len (is_about r) gs) gs ++ drop (prefix_len (is_about r) gs) gs ≡ gs = take-append-drop (prefix_len (is_about r) gs) gs in
        let behind : AllByRecursion (λ g. (is_about r g ≡ false) × (comes_before g.queue g.class r.queue r.class ≡ false))
        (drop (prefix_len (is_about r) gs) gs) =
        all_both (λ g. is_about r g ≡ false) (λ g. comes_before g.queue g.class r.queue r.class ≡ false) (drop (prefix_len (is_about r) gs) gs) split.back
        (all_drop (λ g. comes_before g.queue g.class r.queue r.class ≡ false) (prefix_len (is_about r) gs) gs none) in
        let later : AllByRecursion (λ s. IsTrue (comes_before r.queue r.class s.queue s.class)) rs =
        all_weaker (IsReportAmong (drop (prefix_len (is_about r) gs) gs)) (λ s. IsTrue (comes_before r.queue r.class s.queue s.class))
        (λ s it. let one = one_of (λ g. (is_about r g ≡ false) × (comes_before g.queue g.class r.queue r.class ≡ false)) (is_about s)
        (drop (prefix_len (is_about r) gs) gs) it.some behind in comes_after r s one.0 one.1 one.2.0 one.2.1)
        rs rest.each in
        let kept : (s : Report) → comes_before r.queue r.class s.queue s.class ≡ true
        → filter (is_about s) (drop (prefix_len (is_about r) gs) gs) ≡ filter (is_about s) gs =
        λ s before.
        ap (λ l. l ++ filter (is_about s) (drop (prefix_len (is_about r) gs) gs))
        (sym (filter_none (is_about s) (take (prefix_len (is_about r) gs) gs)
        (all_weaker (λ g. is_about r g ≡ true) (λ g. is_about s g ≡ false) (λ g e. about_one r s g before e)
        (take (prefix_len (is_about r) gs) gs) split.passes)))
        ∙ sym (filter-append (is_about s) (take (prefix_len (is_about r) gs) gs) (drop (prefix_len (is_about r) gs) gs))
        ∙ ap (filter (is_about s)) parts in
        let some : 0 < length (take (prefix_len (is_about r) gs) gs) = front_some r gs (prefix_len (is_about r) gs) groups.0 groups.0 in
        record {
          each = (
            record { report = subst (λ l. IsReportOf l r) split.front groups.1; some = subst (λ (l : List SlotGrant). 0 < length l) split.front some },
            all_weaker (λ s. IsReportAmong (drop (prefix_len (is_about r) gs) gs) s × IsTrue (comes_before r.queue r.class s.queue s.class)) (IsReportAmong gs)
                (λ s it. record {
                  report = subst (λ l. IsReportOf l s) (kept s it.1) it.0.report;
                  some = subst (λ (l : List SlotGrant). 0 < length l) (kept s it.1) it.0.some;
                })
                rs (all_both (IsReportAmong (drop (prefix_len (is_about r) gs) gs))
                (λ s. IsTrue (comes_before r.queue r.class s.queue s.class)) rs rest.each later),
          );
          ascending = (later, rest.ascending);
          complete = subst (AllByRecursion (λ g. IsTrue (is_covered (r ∷ rs) g))) parts
              (all_append (λ g. IsTrue (is_covered (r ∷ rs) g)) (take (prefix_len (is_about r) gs) gs) (drop (prefix_len (is_about r) gs) gs)
              (all_weaker (λ g. is_about r g ≡ true) (λ g. IsTrue (is_covered (r ∷ rs) g)) (covered_here r rs)
              (take (prefix_len (is_about r) gs) gs) split.passes)
              (all_weaker (λ g. IsTrue (is_covered rs g)) (λ g. IsTrue (is_covered (r ∷ rs) g)) (covered_more r rs)
              (drop (prefix_len (is_about r) gs) gs) rest.complete));
        }

-- ---- a report by places, and as it is chosen

chosen_group : (log : Window) (gs : List SlotGrant) (r : Report) → AllByRecursion (IsTimely log) gs → IsReportOf gs r → IsChosenFor log (map (λ g. g.stay) gs) r
chosen_group log gs r timely it = record {
  granted = it.granted ∙ sym (length-map gs (λ g. g.stay));
  worst = record {
    earlier = map (λ g. g.stay) (take it.at gs);
    stay = it.grant.stay;
    later = map (λ g. g.stay) (drop (suc it.at) gs);
    parts = ap (map (λ (g : SlotGrant). g.stay)) parts ∙ map-append (λ (g : SlotGrant). g.stay) (take it.at gs) (it.grant ∷ drop (suc it.at) gs);
    less = all_map (λ (g : SlotGrant). g.stay) (λ g. IsTimely log g × (late_by g <ℤ r.worst)) (λ s. own_lateness log s <ℤ r.worst)
        (λ g h. subst (λ z. z <ℤ r.worst) (sym (lateness_of log g h.0)) h.1)
        (take it.at gs) (all_both (IsTimely log) (λ g. late_by g <ℤ r.worst) (take it.at gs) (all_take (IsTimely log) it.at gs timely) less);
    late = lateness_of log it.grant here ∙ sym it.worst;
    not_more = all_map (λ (g : SlotGrant). g.stay) (λ g. IsTimely log g × (late_by g ≤ℤ r.worst)) (λ s. own_lateness log s ≤ℤ r.worst)
        (λ g h. subst (λ z. z ≤ℤ r.worst) (sym (lateness_of log g h.0)) h.1)
        (drop (suc it.at) gs) (all_drop (λ g. IsTimely log g × (late_by g ≤ℤ r.worst)) (suc it.at) gs
        (all_both (IsTimely log) (λ g. late_by g ≤ℤ r.worst) gs timely bounded));
    slot = it.to;
    due = it.due;
    after = it.after ∙ ap (λ (d : ℤ). last_cut d (map (λ (g : SlotGrant). g.stay) (take it.at gs))) (sym it.due);
  };
  critical = it.critical ∙ sym (filter_map r.after r.to gs);
}
  where
    filter_map : (after to : ℕ) (l : List SlotGrant)
        → filter (is_within after to) (map (λ g. g.stay) l) ≡ map (λ g. g.stay) (filter (λ g. is_within after to g.stay) l)
    filter_map after to [] = refl
    filter_map after to (g ∷ l) = step (is_within after to g.stay) (filter_map after to l)
      where
        step : (b : Bool) → filter (is_within after to) (map (λ x. x.stay) l) ≡ map (λ x. x.stay) (filter (λ x. is_within after to x.stay) l)
            → cond b (g.stay ∷ filter (is_within after to) (map (λ x. x.stay) l)) (filter (is_within after to) (map (λ x. x.stay) l))
            ≡ map (λ x. x.stay) (cond b (g ∷ filter (λ x. is_within after to x.stay) l) (filter (λ x. is_within after to x.stay) l))
        step true e = ap (λ m. g.stay ∷ m) e
        step false e = e

    parts : gs ≡ take it.at gs ++ it.grant ∷ drop (suc it.at) gs
    parts = cut_at gs it.at it.grant it.stands

    read : (d : SlotGrant) → get_or gs it.at d ≡ it.grant
    read d = get_or_from_slice_get gs it.at it.grant d it.stands

    under : (x y : ℤ) → int_lt y x ≡ true → y <ℤ x
    under x y e = grind (arith, ints)

    over : (x y : ℤ) → int_lt y x ≡ false → x ≤ℤ y
    over x y e = grind (arith, ints)

    here : IsTimely log it.grant
    here = subst (IsTimely log) (read it.grant) (All-from_recursion (IsTimely log) gs timely it.at it.grant (slice_get_within gs it.at it.grant it.stands))

    short : it.at ≤ length gs
    short = let h = slice_get_within gs it.at it.grant it.stands in omega arith

    less : AllByRecursion (λ g. late_by g <ℤ r.worst) (take it.at gs)
    less = recursion_from_All (λ g. late_by g <ℤ r.worst) (take it.at gs) (λ k d below.
        let k_at : k < it.at = omega (arith, length-take-le it.at gs short) in
        let h : is_later (get_or gs it.at d) (get_or gs k d) ≡ true = it.first.2 k d k_at in
        let e : get_or (take it.at gs) k d ≡ get_or gs k d = get_or-take it.at gs k d k_at in
        subst (λ g. late_by g <ℤ r.worst) (sym e)
        (subst (λ z. late_by (get_or gs k d) <ℤ z) (sym it.worst)
        (under (late_by it.grant) (late_by (get_or gs k d)) (subst (λ g. is_later g (get_or gs k d) ≡ true) (read d) h))))

    bounded : AllByRecursion (λ g. late_by g ≤ℤ r.worst) gs
    bounded = recursion_from_All (λ g. late_by g ≤ℤ r.worst) gs (λ k d below.
        let h : is_later (get_or gs k d) (get_or gs it.at d) ≡ false = it.first.1 k d below in
        subst (λ z. late_by (get_or gs k d) ≤ℤ z) (sym it.worst)
        (over (late_by (get_or gs k d)) (late_by it.grant) (subst (λ g. is_later (get_or gs k d) g ≡ false) (read d) h)))

-- ---- the reports of a log

abbrev grant_like : Report → SlotGrant
grant_like r = record { queue = r.queue; class = r.class; moment = 0; stay = record { ticket = 0; joined = 0; slot = 0; due = pos 0 } }

pub certified : (log : Window) (sorted : List SlotGrant) (rs : List Report) → IsReadable log → IsPermutation (grants log) sorted → IsSortedBy is_before sorted
    → IsStableBy is_before (grants log) sorted → AreGroups sorted rs → AreReports log rs
certified log sorted rs readable permuted rising stable groups =
    let among = among_groups rs sorted (are_sorted sorted rising) groups in
    record {
      chosen = all_weaker (IsReportAmong sorted) (IsChosenReport log) (λ r it.
          chosen_group log (filter (is_about r) (grants log)) r (all_filter (IsTimely log) (is_about r) (grants log) (timely log readable))
          (subst (λ l. IsReportOf l r) (same r) it.report))
          rs among.each;
      ascending = among.ascending;
      complete = recursion_from_All (λ g. IsTrue (is_covered rs g)) (grants log)
          (All-permutation (λ g. IsTrue (is_covered rs g)) sorted (grants log) (IsPermutation-sym (grants log) sorted permuted)
          (All-from_recursion (λ g. IsTrue (is_covered rs g)) sorted among.complete));
    }
  where
    same : (r : Report) → filter (is_about r) sorted ≡ filter (is_about r) (grants log)
    same r = stable_filter (grant_like r) (grants log) sorted stable
