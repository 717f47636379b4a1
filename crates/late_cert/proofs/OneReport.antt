-- The reports of a log are one list.
use Rattle.std.proofs.Common.{◌≡◌, ℕ, ◌||◌, cond, ℤ, pos, ◌-ℤ◌, ◌≤ℤ◌, ◌<ℤ◌, Bool, true, false, inl, inr}
use Rattle.std.proofs.Common.{IsTrue, List, [], ◌∷◌, ◌++◌, map, filter, Contains, refl, ap, sym, ◌∙◌, subst, arith}
use Rattle.std.specs.List.{AllByRecursion}
use Rattle.std.specs.Ordering.{int_eq}
use Rattle.std.proofs.lemmas.Bool.{and_parts}
use Rattle.std.proofs.lemmas.Bool.Decides.{Decides-int_eq}
use Rattle.std.proofs.lemmas.Int.{ints}
use Rattle.base_lists.proofs.Members.{Contains-nil, Contains-head, Contains-tail, Contains-cases, Contains-middle, each_at_member, each_from_members}
use Rattle.base_lists.proofs.Never.{false_true}
use Rattle.log_entries.specs.declared.queue.Queue.{Queue}
use Rattle.log_entries.specs.Determined.{AreSameHistories}
use Rattle.log_entries.specs.Histories.{History}
use Rattle.log_entries.specs.Legal.{IsLegal}
use Rattle.log_entries.specs.Rows.{same_queue}
use Rattle.log_reading.specs.declared.grant.SlotGrant.{SlotGrant}
use Rattle.log_reading.specs.declared.grant.Stay.{Stay}
use Rattle.log_reading.specs.Grants.{is_of, grants, stays, moment_at}
use Rattle.log_reading.specs.Windows.{Window, window_in}
use Rattle.log_entries.proofs.Choices.{queue_same}
use Rattle.log_reading.proofs.Placeless.{same_grants, same_moments}
use Rattle.late_cert.specs.declared.report.Report.{Report}
use Rattle.late_cert.specs.Lateness.{own_lateness}
use Rattle.late_cert.specs.Reports.{stays_of, is_within, last_cut, IsFirstWorst, IsChosenFor}
use Rattle.late_cert.specs.Reports.{IsChosenReport, comes_before, AreAscending, is_covered, AreReports}
use Rattle.late_cert.proofs.Order.{before_one_way}

-- the first of the latest stays is one
record AreOneWorst (first second : List Stay) (stay other : Stay) : Type 0 where
  pub earlier : first ≡ second
  pub stay_is : stay ≡ other

module _ (late : Stay → ℤ) where
  first_same : (a b c d : List Stay) (s u : Stay) → a ++ s ∷ c ≡ b ++ u ∷ d → AllByRecursion (λ it. late it <ℤ late s) a
      → AllByRecursion (λ it. late it ≤ℤ late s) c
      → AllByRecursion (λ it. late it <ℤ late u) b → AllByRecursion (λ it. late it ≤ℤ late u) d → AreOneWorst a b s u
  first_same [] [] c d s u same less more low high = let stay : s ≡ u = cc in record { earlier = refl; stay_is = stay }
  first_same [] (x ∷ b) c d s u same less more low high =
      let head : s ≡ x = cc in
      let rest : c ≡ b ++ u ∷ d = cc in
      let there : late u ≤ℤ late s = each_at_member (λ it. late it ≤ℤ late s) c u more (subst (λ l. Contains l u) (sym rest) (Contains-middle b u d)) in
      let here : late s <ℤ late u = subst (λ it. late it <ℤ late u) (sym head) low.0 in
      absurd (omega (arith, ints, there, here))
  first_same (x ∷ a) [] c d s u same less more low high =
      let head : u ≡ x = cc in
      let rest : d ≡ a ++ s ∷ c = cc in
      let there : late s ≤ℤ late u = each_at_member (λ it. late it ≤ℤ late u) d s high (subst (λ l. Contains l s) (sym rest) (Contains-middle a s c)) in
      let here : late u <ℤ late s = subst (λ it. late it <ℤ late s) (sym head) less.0 in
      absurd (omega (arith, ints, there, here))
  first_same (x ∷ a) (y ∷ b) c d s u same less more low high =
      let head : x ≡ y = cc in
      let rest : a ++ s ∷ c ≡ b ++ u ∷ d = cc in
      let it = first_same a b c d s u rest less.1 more low.1 high in
      let tails : a ≡ b = it.earlier in
      record { earlier = cc; stay_is = it.stay_is }

-- windows that tell of the same grants and moments
record TellAlike (window other : Window) : Type 0 where
  pub granted : grants other ≡ grants window
  pub moments : (n : ℕ) → moment_at other.entries n ≡ moment_at window.entries n

module _ (window other : Window) (alike : TellAlike window other) where
  late-same : (stay : Stay) → own_lateness other stay ≡ own_lateness window stay
  late-same stay = ap (λ (n : ℕ). pos n -ℤ stay.due) (alike.moments stay.slot)

  stays-same : (queue : Queue) (class : ℤ) → stays other queue class ≡ stays window queue class
  stays-same queue class = ap (λ (l : List SlotGrant). map (λ grant. grant.stay) (filter (is_of queue class) l)) alike.granted

  -- by how late stays are, both worst stays are the same
  worst-same : (l : List Stay) (r u : Report) → IsFirstWorst window l r → IsFirstWorst other l u
      → (r.worst ≡ u.worst) × (r.due ≡ u.due) × (r.to ≡ u.to) × (r.after ≡ u.after)
  worst-same l r u a b =
      let late : Stay → ℤ = own_lateness window in
      let its : own_lateness window b.stay ≡ u.worst = sym (late-same b.stay) ∙ b.late in
      let is =
      first_same (own_lateness window) a.earlier b.earlier a.later b.later a.stay b.stay (sym a.parts ∙ b.parts)
      (subst (λ w. AllByRecursion (λ it. own_lateness window it <ℤ w) a.earlier) (sym a.late) a.less)
      (subst (λ w. AllByRecursion (λ it. own_lateness window it ≤ℤ w) a.later) (sym a.late) a.not_more)
      (each_from_members _ b.earlier (λ x among. less_at x (each_at_member _ b.earlier x b.less among)))
      (each_from_members _ b.later (λ x among. not_more_at x (each_at_member _ b.later x b.not_more among)))
      in
      let stay : a.stay ≡ b.stay = is.stay_is in
      let worst : r.worst ≡ u.worst = sym a.late ∙ ap (own_lateness window) stay ∙ its in
      let due : r.due ≡ u.due = a.due ∙ ap (λ (x : Stay). x.due) stay ∙ sym b.due in
      let slot : r.to ≡ u.to = a.slot ∙ ap (λ (x : Stay). x.slot) stay ∙ sym b.slot in
      let cut : r.after ≡ u.after = a.after ∙ ap (λ (x : List Stay). last_cut r.due x) is.earlier ∙ ap (λ (x : ℤ). last_cut x b.earlier) due ∙ sym b.after in
      (worst, due, slot, cut)
    where
      less_at : (x : Stay) → own_lateness other x <ℤ u.worst → own_lateness window x <ℤ own_lateness window b.stay
      less_at x less = subst (λ w. own_lateness window x <ℤ w) (sym (sym (late-same b.stay) ∙ b.late)) (subst (λ w. w <ℤ u.worst) (late-same x) less)

      not_more_at : (x : Stay) → own_lateness other x ≤ℤ u.worst → own_lateness window x ≤ℤ own_lateness window b.stay
      not_more_at x less = subst (λ w. own_lateness window x ≤ℤ w) (sym (sym (late-same b.stay) ∙ b.late)) (subst (λ w. w ≤ℤ u.worst) (late-same x) less)

  -- the chosen report of a queue and class is one
  chosen-same : (r u : Report) → r.queue ≡ u.queue → r.class ≡ u.class → IsChosenReport window r → IsChosenReport other u → r ≡ u
  chosen-same r u queue class a b =
      let l : List Stay = stays_of window r in
      let list : stays_of other u ≡ stays_of window r = stays-same u.queue u.class ∙ ap (λ q. stays window q u.class) (sym queue)
      ∙ ap (λ c. stays window r.queue c) (sym class) in
      let its : IsChosenFor other (stays_of window r) u = subst (λ x. IsChosenFor other x u) list b in
      let parts = worst-same (stays_of window r) r u a.worst its.worst in
      let granted : r.granted ≡ u.granted = a.granted ∙ sym its.granted in
      let critical : r.critical ≡ u.critical =
      a.critical ∙ ap (λ n. filter (is_within n r.to) (stays_of window r)) parts.3 ∙ ap (λ n. filter (is_within u.after n) (stays_of window r)) parts.2
      ∙ sym its.critical
      in
      let worst : r.worst ≡ u.worst = parts.0 in
      let due : r.due ≡ u.due = parts.1 in
      let slot : r.to ≡ u.to = parts.2 in
      let cut : r.after ≡ u.after = parts.3 in
      ap (λ x. record r { queue = x }) queue
      ∙ ap (λ x. record r { queue = u.queue; class = x }) class
      ∙ ap (λ x. record r { queue = u.queue; class = u.class; granted = x }) granted
      ∙ ap (λ x. record r { queue = u.queue; class = u.class; granted = u.granted; worst = x }) worst
      ∙ ap (λ x. record r { queue = u.queue; class = u.class; granted = u.granted; worst = u.worst; due = x }) due
      ∙ ap (λ x. record r { queue = u.queue; class = u.class; granted = u.granted; worst = u.worst; due = u.due; after = x }) cut
      ∙ ap (λ x. record r { queue = u.queue; class = u.class; granted = u.granted; worst = u.worst; due = u.due; after = u.after; to = x }) slot
      ∙ ap (λ x. record u { critical = x }) critical

-- a report is about a grant
some_grant : (gs : List SlotGrant) (queue : Queue) (class : ℤ) (earlier later : List Stay) (stay : Stay)
    → map (λ it. it.stay) (filter (is_of queue class) gs) ≡ earlier ++ stay ∷ later
    → (grant : SlotGrant) × Contains gs grant × (is_of queue class grant ≡ true)
some_grant [] queue class [] later stay same = let none : [] ≡ stay ∷ later = same in cc
some_grant [] queue class (x ∷ earlier) later stay same = let none : [] ≡ x ∷ (earlier ++ stay ∷ later) = same in cc
some_grant (g ∷ gs) queue class earlier later stay same = by_test (is_of queue class g) refl (some_grant gs queue class earlier later stay)
  where
    by_test : (b : Bool) → is_of queue class g ≡ b
        → (map (λ it. it.stay) (filter (is_of queue class) gs) ≡ earlier ++ stay ∷ later
        → (grant : SlotGrant) × Contains gs grant × (is_of queue class grant ≡ true))
        → (grant : SlotGrant) × Contains (g ∷ gs) grant × (is_of queue class grant ≡ true)
    by_test true e rest = (g, Contains-head g gs, e)
    by_test false e rest =
        let it = rest (sym (ap (λ (b : Bool). map (λ (grant : SlotGrant). grant.stay)
        (cond b (g ∷ filter (is_of queue class) gs) (filter (is_of queue class) gs))) e) ∙ same) in
        (it.0, Contains-tail g gs it.0 it.1, it.2)

covering : (reports : List Report) (grant : SlotGrant) → is_covered reports grant ≡ true
    → (report : Report) × Contains reports report × (is_of report.queue report.class grant ≡ true)
covering [] grant covered = false_true covered
covering (r ∷ reports) grant covered = by_test (is_of r.queue r.class grant) refl (covering reports grant)
  where
    by_test : (b : Bool) → is_of r.queue r.class grant ≡ b
        → (is_covered reports grant ≡ true → (report : Report) × Contains reports report × (is_of report.queue report.class grant ≡ true))
        → (report : Report) × Contains (r ∷ reports) report × (is_of report.queue report.class grant ≡ true)
    by_test true e rest = (r, Contains-head r reports, e)
    by_test false e rest =
        let it = rest (sym (ap (λ (b : Bool). b || is_covered reports grant) e) ∙ covered) in
        (it.0, Contains-tail r reports it.0 it.1, it.2)

same_group : (grant : SlotGrant) (q r : Queue) (c d : ℤ) → is_of q c grant ≡ true → is_of r d grant ≡ true → (q ≡ r) × (c ≡ d)
same_group grant q r c d first second =
    let a = and_parts (same_queue q grant.queue) (int_eq c grant.class) first in
    let b = and_parts (same_queue r grant.queue) (int_eq d grant.class) second in
    (queue_same q grant.queue a.0 ∙ sym (queue_same r grant.queue b.0), (Decides-int_eq c grant.class).0 a.1 ∙ sym ((Decides-int_eq d grant.class).0 b.1))

-- reports in order are one list where each is one of the others
rising : (xs ys : List Report) → AreAscending xs → AreAscending ys → ((x : Report) → Contains xs x → Contains ys x)
    → ((y : Report) → Contains ys y → Contains xs y) → xs ≡ ys
rising [] [] low high to back = refl
rising [] (y ∷ ys) low high to back = absurd (Contains-nil y (back y (Contains-head y ys)))
rising (x ∷ xs) [] low high to back = absurd (Contains-nil x (to x (Contains-head x xs)))
rising (x ∷ xs) (y ∷ ys) low high to back =
    elim (Contains-cases y ys x (to x (Contains-head x xs))) [
      | inl same ↦ heads (rising xs ys low.1 high.1) (sym same)
      | inr later ↦ elim (Contains-cases x xs y (back y (Contains-head y ys))) [
        | inl same ↦ heads (rising xs ys low.1 high.1) same
        | inr after ↦ false_true (sym (before_one_way y.queue x.queue y.class x.class (before y ys x high later)) ∙ before x xs y low after)
      ]
    ]
  where
    before : (z : Report) (zs : List Report) (w : Report) → AreAscending (z ∷ zs) → Contains zs w → comes_before z.queue z.class w.queue w.class ≡ true
    before z zs w ascending among = each_at_member (λ later. IsTrue (comes_before z.queue z.class later.queue later.class)) zs w ascending.0 among

    none_itself : (z : Report) → comes_before z.queue z.class z.queue z.class ≡ true → ⊥
    none_itself z it = false_true (sym (before_one_way z.queue z.queue z.class z.class it) ∙ it)

    heads : (((z : Report) → Contains xs z → Contains ys z) → ((z : Report) → Contains ys z → Contains xs z) → xs ≡ ys) → x ≡ y → x ∷ xs ≡ y ∷ ys
    heads rest same =
        let tails : xs ≡ ys =
        rest
        (λ z among. elim (Contains-cases y ys z (to z (Contains-tail x xs z among))) [
          | inl is ↦ absurd (none_itself z (subst (λ (w : Report). comes_before w.queue w.class z.queue z.class ≡ true) (same ∙ is) (before x xs z low among)))
          | inr later ↦ later
        ])
        (λ z among. elim (Contains-cases x xs z (back z (Contains-tail y ys z among))) [
          | inl is ↦ absurd (none_itself z (subst (λ (w : Report). comes_before w.queue w.class z.queue z.class ≡ true) (sym same
              ∙ is) (before y ys z high among)))
          | inr later ↦ later
        ])
        in
        cc

-- each report of the one is one of the other
each_is_there : (window other : Window) (reports others : List Report) → TellAlike window other → AreReports window reports → AreReports other others
    → (r : Report) → Contains reports r → Contains others r
each_is_there window other reports others alike mine its r among =
    let chosen = each_at_member (IsChosenReport window) reports r mine.chosen among in
    let grant = some_grant (grants window) r.queue r.class chosen.worst.earlier chosen.worst.later chosen.worst.stay chosen.worst.parts in
    let there = covering others grant.0 (each_at_member (λ g. IsTrue (is_covered others g)) (grants other) grant.0 its.complete
    (subst (λ l. Contains l grant.0) (sym alike.granted) grant.1)) in
    let group = same_group grant.0 r.queue there.0.queue r.class there.0.class grant.2 there.2 in
    let is : r ≡ there.0 = chosen-same window other alike r there.0 group.0 group.1 chosen
    (each_at_member (IsChosenReport other) others there.0 its.chosen there.1) in
    subst (Contains others) (sym is) there.1

pub reports_same : (h other : History) (reports others : List Report) → IsLegal h → IsLegal other → AreSameHistories h other → AreReports (window_in h) reports
    → AreReports (window_in other) others → others ≡ reports
reports_same h other reports others legal too same mine its =
    let grants_same = same_grants h other legal too same in
    let alike : TellAlike (window_in h) (window_in other) = record { granted = grants_same; moments = same_moments h other same } in
    let back : TellAlike (window_in other) (window_in h) = record { granted = sym grants_same; moments = λ n. sym (same_moments h other same n) } in
    sym (rising reports others mine.ascending its.ascending (each_is_there (window_in h) (window_in other) reports others alike mine its)
    (each_is_there (window_in other) (window_in h) others reports back its mine))
