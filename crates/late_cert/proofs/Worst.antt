-- The worst of grants: of one grant more, and of the stays of a window.
use Rattle.std.proofs.Common.{◌≡◌, Bool, true, false, cond, List, [], ◌∷◌, ◌++◌, map, Contains, refl, sym}
use Rattle.std.proofs.Common.{ap, subst, ◌∙◌, arith, Option, Some, None, ℤ, ◌≤ℤ◌, int_lt, inl, inr}
use Rattle.std.specs.Int.{int_max}
use Rattle.std.specs.Option.{option_map_or}
use Rattle.std.specs.List.{AllByRecursion, filter}
use Rattle.std.proofs.lemmas.Int.{ints, clamps}
use Rattle.std.proofs.lemmas.List.{map-append, append-nil}
use Rattle.std.proofs.lemmas.List.Elements.{Contains-append_left, Contains-append_right, Contains-append_cases, filter-append}
use Rattle.log_entries.specs.declared.queue.Queue.{Queue}
use Rattle.log_reading.specs.Grants.{is_of, stays, grants}
use Rattle.log_reading.specs.Readable.{IsReadable}
use Rattle.log_reading.specs.Timely.{IsTimely}
use Rattle.log_reading.specs.Windows.{Window}
use Rattle.log_reading.specs.declared.grant.SlotGrant.{SlotGrant}
use Rattle.log_reading.specs.declared.grant.Stay.{Stay}
use Rattle.log_reading.proofs.Timely.{timely}
use Rattle.late_cert.specs.Lateness.{own_lateness}
use Rattle.late_cert.specs.Reports.{IsSoundReport}
use Rattle.late_cert.specs.Running.{IsGreatest, IsWorstIn, IsWorstOf, IsWorstAmong, latenesses_of, worst_so_far, worst_with}
use Rattle.late_cert.specs.declared.table.Running.{Running}
use Rattle.late_cert.specs.declared.report.Report.{Report}
use Rattle.base_lists.proofs.Members.{Contains-head, Contains-nil, Contains-one, Contains-map, each_at_member, all_map}
use Rattle.late_cert.specs.Tests.{late_by}
use Rattle.late_cert.proofs.Sorted.{is_of_true}
use Rattle.late_cert.proofs.Sound.{lateness_of}

-- the greatest of numbers and one more
pub greatest_with : (numbers : List ℤ) (worst : Option ℤ) (number : ℤ) → IsGreatest numbers worst
    → IsGreatest (numbers ++ number ∷ []) (Some (option_map_or (int_max number) worst number))
greatest_with numbers None number is =
    subst (λ l. IsGreatest (l ++ number ∷ []) (Some number)) (sym is)
    (Contains-head number [], λ n among. subst (λ z. z ≤ℤ number) (Contains-one number n among) (grind (arith, ints)))
greatest_with numbers (Some worst) number is = (reached (int_lt worst number), bounded)
  where
    reached : (b : Bool) → Contains (numbers ++ number ∷ []) (cond b number worst)
    reached true = Contains-append_right numbers (number ∷ []) number (Contains-head number [])
    reached false = Contains-append_left numbers (number ∷ []) worst is.0

    bounded : (n : ℤ) → Contains (numbers ++ number ∷ []) n → n ≤ℤ int_max number worst
    bounded n among = elim (Contains-append_cases numbers (number ∷ []) n among) [
      | inl old ↦ let below : n ≤ℤ worst = is.1 n old in grind (arith, ints, clamps)
      | inr new ↦ let same : n ≡ number = sym (Contains-one number n new) in grind (arith, ints, clamps)
    ]

-- the greatest of numbers is one
pub greatest_is_one : (numbers : List ℤ) (worst : Option ℤ) (number : ℤ) → IsGreatest numbers worst → Contains numbers number
    → ((n : ℤ) → Contains numbers n → n ≤ℤ number) → worst ≡ Some number
greatest_is_one numbers None number is among bound = absurd (Contains-nil number (subst (λ l. Contains l number) is among))
greatest_is_one numbers (Some worst) number is among bound =
    let up : number ≤ℤ worst = is.1 number among in
    let down : worst ≤ℤ number = bound worst is.0 in
    ap Some (grind (arith, ints))

-- the worst of some grants and one more
pub among_with : (gs : List SlotGrant) (g : SlotGrant) (before : Queue → ℤ → Option ℤ) (queue : Queue) (class : ℤ)
    → IsGreatest (latenesses_of queue class gs) (before queue class)
    → IsGreatest (latenesses_of queue class (gs ++ g ∷ [])) (worst_with before g.queue g.class (late_by g) queue class)
among_with gs g before queue class is =
    subst (λ l. IsGreatest l (worst_with before g.queue g.class (late_by g) queue class)) (sym parts) (go (is_of queue class g) refl)
  where
    parts : latenesses_of queue class (gs ++ g ∷ []) ≡ latenesses_of queue class gs ++ map late_by (filter (is_of queue class) (g ∷ []))
    parts = ap (map late_by) (filter-append (is_of queue class) gs (g ∷ []))
        ∙ map-append late_by (filter (is_of queue class) gs) (filter (is_of queue class) (g ∷ []))

    go : (b : Bool) → is_of queue class g ≡ b → IsGreatest (latenesses_of queue class gs ++ map late_by (cond b (g ∷ []) []))
        (cond b (Some (option_map_or (int_max (late_by g)) (before g.queue g.class) (late_by g))) (before queue class))
    go true e =
        let sames = is_of_true queue class g e in
        subst (λ o. IsGreatest (latenesses_of queue class gs ++ late_by g ∷ []) (Some (option_map_or (int_max (late_by g)) o (late_by g))))
        (ap (λ q. before q class) sames.0 ∙ ap (before g.queue) sames.1) (greatest_with (latenesses_of queue class gs) (before queue class) (late_by g) is)
    go false e = subst (λ l. IsGreatest l (before queue class)) (sym (append-nil (latenesses_of queue class gs))) is

-- the latenesses of a readable window's stays are those of its grants
pub own_latenesses : (window : Window) → IsReadable window → (queue : Queue) (class : ℤ)
    → map (own_lateness window) (stays window queue class) ≡ latenesses_of queue class (grants window)
own_latenesses window readable queue class = go (grants window) (timely window readable)
  where
    go : (gs : List SlotGrant) → AllByRecursion (IsTimely window) gs
        → map (own_lateness window) (map (λ g. g.stay) (filter (is_of queue class) gs)) ≡ latenesses_of queue class gs
    go [] all = refl
    go (g ∷ gs) all = by (is_of queue class g) (go gs all.1)
      where
        by : (b : Bool) → map (own_lateness window) (map (λ g. g.stay) (filter (is_of queue class) gs)) ≡ latenesses_of queue class gs
            → map (own_lateness window) (map (λ g. g.stay) (cond b (g ∷ filter (is_of queue class) gs) (filter (is_of queue class) gs)))
            ≡ map late_by (cond b (g ∷ filter (is_of queue class) gs) (filter (is_of queue class) gs))
        by true rest = ap (λ z. z ∷ map (own_lateness window) (map (λ g. g.stay) (filter (is_of queue class) gs))) (lateness_of window g all.0)
            ∙ ap (λ l. late_by g ∷ l) rest
        by false rest = rest

-- the worst so far of a queue and class is what a sound report of it says
pub certified : (window : Window) (report : Report) (worst : Option ℤ) → IsWorstIn window report.queue report.class worst → IsSoundReport window report
    → worst ≡ Some report.worst
certified window report worst is sound =
    greatest_is_one (map (own_lateness window) (stays window report.queue report.class)) worst report.worst is
    (subst (Contains (map (own_lateness window) (stays window report.queue report.class))) sound.worst.late
    (Contains-map (own_lateness window) (stays window report.queue report.class) sound.worst.stay sound.worst.member))
    (λ n. each_at_member (λ z. z ≤ℤ report.worst) _ n
    (all_map (own_lateness window) (λ stay. own_lateness window stay ≤ℤ report.worst) (λ z. z ≤ℤ report.worst) (λ stay below. below)
    (stays window report.queue report.class) sound.bounded))

-- no stays where there is no worst
pub none_certified : (window : Window) (queue : Queue) (class : ℤ) (worst : Option ℤ) → IsWorstIn window queue class worst → worst ≡ None
    → stays window queue class ≡ []
none_certified window queue class worst is none = go (stays window queue class) (subst (IsWorstIn window queue class) none is)
  where
    go : (ss : List Stay) → map (own_lateness window) ss ≡ [] → ss ≡ []
    go [] e = refl
    go (s ∷ ss) e = cc

-- the worst so far of a readable window's grants is that of its stays
pub worst_of_window : (window : Window) → IsReadable window → (running : Running) → IsWorstAmong (grants window) running → IsWorstOf window running
worst_of_window window readable running is queue class in_range =
    subst (λ l. IsGreatest l (worst_so_far running queue class)) (sym (own_latenesses window readable queue class)) (is queue class in_range)
