-- Legal logs with the same events are one.
use Rattle.std.proofs.Common.{◌≡◌, ◌≢◌, ℕ, ◌+◌, Bool, true, false, cond, ◌⊎◌, inl, inr, List, [], ◌∷◌, map, length, refl, ap, sym, ◌∙◌, subst}
use Rattle.base_lists.proofs.Never.{false_true}
use Rattle.log_entries.specs.declared.entry.Arrival.{Arrival}
use Rattle.log_entries.specs.declared.entry.Entry.{Entry}
use Rattle.log_entries.specs.declared.entry.Entry.TheVariants.{Arrive, Done, Fail, Abort, Tick, Check, Limit, Direct}
use Rattle.log_entries.specs.declared.entry.Entry.TheVariants.{Joined, Granted, Moved, Freed, Retried, Left, Health, Ended}
use Rattle.log_entries.specs.declared.setup.Setup.{Setup}
use Rattle.log_entries.specs.Determined.{events, unplaced, AreSameButForPlaces, IsSameButForPlaces}
use Rattle.log_entries.specs.Grants.{IsSettled}
use Rattle.log_entries.specs.Histories.{History, state_of, begins_event}
use Rattle.log_entries.specs.Judgement.{Stage, granting, EventIsOver, MayCome, AllMayCome, next_stage, stage_after}
use Rattle.log_entries.specs.Legal.{IsLegal}
use Rattle.log_entries.specs.Rows.{IsVacant}
use Rattle.log_entries.specs.States.{State, scene, after, after_all, Point, point_of, next_point}
use Rattle.log_entries.proofs.Consistency.{IsConsistent}
use Rattle.log_entries.proofs.Dispatched.{base_consistent}
use Rattle.log_entries.proofs.Judged.{consistent_after}
use Rattle.log_entries.proofs.OneEntry.{IsNext, granted_or_owed, same_entry, event_alone, event_begins}
use Rattle.log_entries.proofs.SameRows.{same_state-flip, same_state-itself, after-same, arrived-same}
use Rattle.log_entries.proofs.SameScenes.{next_back}
use Rattle.log_entries.proofs.Staying.{KeepsTo, keeps_after}

-- an entry is an arrival, or tells no place
arrival_or_not : (e : Entry) → ((m : ℕ) × (a : Arrival) × (e ≡ Arrive m a)) ⊎ ((unplaced e ≡ e) × ((m : ℕ) (a : Arrival) → e ≢ Arrive m a))
arrival_or_not (Arrive m a) = inl (m, a, refl)
arrival_or_not (Done m u) = inr (refl, λ m a is. cc)
arrival_or_not (Fail m u) = inr (refl, λ m a is. cc)
arrival_or_not (Abort m u) = inr (refl, λ m a is. cc)
arrival_or_not (Tick m) = inr (refl, λ m a is. cc)
arrival_or_not (Check m v ok) = inr (refl, λ m a is. cc)
arrival_or_not (Limit m v k) = inr (refl, λ m a is. cc)
arrival_or_not (Direct u v) = inr (refl, λ m a is. cc)
arrival_or_not (Joined u q) = inr (refl, λ m a is. cc)
arrival_or_not (Granted u q v) = inr (refl, λ m a is. cc)
arrival_or_not (Moved u v) = inr (refl, λ m a is. cc)
arrival_or_not (Freed u v) = inr (refl, λ m a is. cc)
arrival_or_not (Retried u v k) = inr (refl, λ m a is. cc)
arrival_or_not (Left u c) = inr (refl, λ m a is. cc)
arrival_or_not (Health v up) = inr (refl, λ m a is. cc)
arrival_or_not (Ended u) = inr (refl, λ m a is. cc)

-- two arrivals that are the same but for their places
record AreArrivals (e f : Entry) : Type 0 where
  pub moment : ℕ
  pub first : Arrival
  pub second : Arrival
  pub is_first : e ≡ Arrive moment first
  pub is_second : f ≡ Arrive moment second
  pub alike : record first { place = 0 } ≡ record second { place = 0 }

same_or_arrivals : (e f : Entry) → unplaced e ≡ unplaced f → AreArrivals e f ⊎ (e ≡ f)
same_or_arrivals e f same =
    elim (arrival_or_not e) [
      | inl a ↦ elim (arrival_or_not f) [
        | inl b ↦ inl (both a.0 b.0 a.1 b.1 a.2 b.2 (sym (ap unplaced a.2) ∙ same ∙ ap unplaced b.2))
        | inr b ↦ absurd (b.1 a.0 (record a.1 { place = 0 }) (sym b.0 ∙ sym same ∙ ap unplaced a.2))
      ]
      | inr a ↦ elim (arrival_or_not f) [
        | inl b ↦ absurd (a.1 b.0 (record b.1 { place = 0 }) (sym a.0 ∙ same ∙ ap unplaced b.2))
        | inr b ↦ inr (sym a.0 ∙ same ∙ b.0)
      ]
    ]
  where
    both : (m n : ℕ) (a b : Arrival) → e ≡ Arrive m a → f ≡ Arrive n b → Arrive m (record a { place = 0 }) ≡ Arrive n (record b { place = 0 }) → AreArrivals e f
    both m n a b is_first is_second alike =
        let moment : m ≡ n = cc in
        let arrival : record a { place = 0 } ≡ record b { place = 0 } = cc in
        record { moment = m; first = a; second = b; is_first = is_first; is_second = is_second ∙ ap (λ k. Arrive k b) (sym moment); alike = arrival }

-- what a state has that a judged log left
pub record IsLeft (setup : Setup) (s : State) (t : Stage) : Type 0 where
  pub consistent : IsConsistent s.rows s.ticket t
  pub keeps : KeepsTo (length setup.servers) s

left_after : (here : Point) (t : Stage) (e : Entry) → IsLeft here.setup here.state t → MayCome here t e
    → IsLeft here.setup (after here.setup here.state e) (next_stage t e)
left_after here t e is may =
    record { consistent = consistent_after here t e is.consistent may; keeps = keeps_after here.setup here.state here.used t e is.keeps may }

module _ (setup : Setup) (s other : State) (n : ℕ) (t : Stage) (is : IsLeft setup s t) (its : IsLeft setup other t) (same : IsSameButForPlaces s other) where
  quiet_back : (e : Entry) → IsNext setup other t e → IsNext setup s t e
  quiet_back e next = next_back setup s other.rows same.rows is.consistent.tickets its.consistent.tickets t e
      (subst (λ (x : State). IsNext setup x t e) same.rest next)

  -- the same entry, but for its place, leaves the same, but for places
  vacant_at : (state : State) (e : Entry) (m : ℕ) (a : Arrival) → e ≡ Arrive m a → MayCome (point_of setup state n) t e → IsVacant state.rows a.place
  vacant_at state e m a is_arrival may =
      let it : MayCome (point_of setup state n) t (Arrive m a) = subst (MayCome (point_of setup state n) t) is_arrival may in it.1.vacant

  arrivals_leave : (e f : Entry) → AreArrivals e f → MayCome (point_of setup s n) t e → MayCome (point_of setup other n) t f
      → IsSameButForPlaces (after setup s e) (after setup other f)
  arrivals_leave e f it may might =
      subst (λ x. IsSameButForPlaces (after setup s x) (after setup other f)) (sym it.is_first)
      (subst (λ y. IsSameButForPlaces (after setup s (Arrive it.moment it.first)) (after setup other y)) (sym it.is_second)
      (subst (λ (z : State). IsSameButForPlaces (after setup s (Arrive it.moment it.first)) (after setup z (Arrive it.moment it.second))) (sym same.rest)
      (arrived-same setup s other.rows same.rows is.consistent.tickets its.consistent.tickets it.moment it.first it.second
      (vacant_at s e it.moment it.first it.is_first may) (vacant_at other f it.moment it.second it.is_second might) it.alike)))

  same_leaves : (e : Entry) → MayCome (point_of setup s n) t e → MayCome (point_of setup other n) t e
      → IsSameButForPlaces (after setup s e) (after setup other e)
  same_leaves e may might =
      elim (arrival_or_not e) [
        | inl a ↦ arrivals_leave e e (record { moment = a.0; first = a.1; second = a.1; is_first = a.2; is_second = a.2; alike = refl }) may might
        | inr a ↦ subst (λ (z : State). IsSameButForPlaces (after setup s e) (after setup z e)) (sym same.rest)
            (after-same setup s other.rows same.rows is.consistent.tickets its.consistent.tickets e a.1)
      ]

  leaves : (e f : Entry) → unplaced e ≡ unplaced f → MayCome (point_of setup s n) t e → MayCome (point_of setup other n) t f
      → IsSameButForPlaces (after setup s e) (after setup other f)
  leaves e f alike may might =
      elim (same_or_arrivals e f alike) [
        | inl it ↦ arrivals_leave e f it may might
        | inr it ↦ subst (λ x. IsSameButForPlaces (after setup s e) (after setup other x)) it
            (same_leaves e may (subst (MayCome (point_of setup other n) t) (sym it) might))
      ]

  next_same : (e f : Entry) → unplaced e ≡ unplaced f → next_stage t f ≡ next_stage t e
  next_same e f alike =
      elim (same_or_arrivals e f alike) [
        | inl it ↦ ap (next_stage t) it.is_second ∙ ap (λ (a : Arrival). next_stage t (Arrive it.moment a)) (sym it.alike) ∙ sym (ap (next_stage t) it.is_first)
        | inr it ↦ ap (next_stage t) (sym it)
      ]

-- where a judged log may end
pub record MayEnd (setup : Setup) (s : State) (t : Stage) : Type 0 where
  pub over : EventIsOver setup s t
  pub settled : IsSettled (scene setup s)

pub head_begins : (e : Entry) (es : List Entry) → begins_event e ≡ true → events (e ∷ es) ≡ e ∷ events es
head_begins e es begins = ap (λ (b : Bool). cond b (e ∷ events es) (events es)) begins

pub head_goes_on : (e : Entry) (es : List Entry) → begins_event e ≡ false → events (e ∷ es) ≡ events es
head_goes_on e es none = ap (λ (b : Bool). cond b (e ∷ events es) (events es)) none

module _ (setup : Setup) where
  abbrev pub AreOne : State → State → List Entry → List Entry → Type 0
  AreOne s other es fs = AreSameButForPlaces es fs × IsSameButForPlaces (after_all setup s es) (after_all setup other fs)

  -- an entry more at the end of one of them
  none_more : (s other : State) (n : ℕ) (t : Stage) (f : Entry) (fs : List Entry) → IsLeft setup s t → IsLeft setup other t → IsSameButForPlaces s other
      → MayEnd setup s t → MayCome (point_of setup other n) t f → [] ≡ map unplaced (events (f ∷ fs)) → ⊥
  none_more s other n t f fs is its same ends may none = by_kind (begins_event f) refl
    where
      by_kind : (b : Bool) → begins_event f ≡ b → ⊥
      by_kind true begins = let e : [] ≡ unplaced f ∷ map unplaced (events fs) = none ∙ ap (map unplaced) (head_begins f fs begins) in cc
      by_kind false quiet = event_alone setup s is.consistent.tickets is.keeps.cursor t f ends.over ends.settled
          (quiet_back setup s other n t is its same f (granted_or_owed setup other n t f quiet may))

  pub determined : (es fs : List Entry) (s other : State) (n : ℕ) (t : Stage) → IsLeft setup s t → IsLeft setup other t → IsSameButForPlaces s other
      → AllMayCome (point_of setup s n) t es → AllMayCome (point_of setup other n) t fs
      → MayEnd setup (after_all setup s es) (stage_after t es) → MayEnd setup (after_all setup other fs) (stage_after t fs)
      → AreSameButForPlaces (events es) (events fs) → AreOne s other es fs
  determined [] [] s other n t is its same all each ends too events = (refl, same)
  determined [] (f ∷ fs) s other n t is its same all each ends too events = absurd (none_more s other n t f fs is its same ends each.0 events)
  determined (e ∷ es) [] s other n t is its same all each ends too events =
      absurd (none_more other s n t e es its is (same_state-flip s other same) too all.0 (sym events))
  determined (e ∷ es) (f ∷ fs) s other n t is its same all each ends too alike =
      by_kinds (begins_event e) (begins_event f) refl refl
      (λ one tails.
      let stage : next_stage t f ≡ next_stage t e = next_same setup s other n t is its same e f one in
      determined es fs (after setup s e) (after setup other f) (n + 1) (next_stage t e) (left_after (point_of setup s n) t e is all.0)
      (subst (IsLeft setup (after setup other f)) stage (left_after (point_of setup other n) t f its each.0))
      (leaves setup s other n t is its same e f one all.0 each.0) all.1
      (subst (λ x. AllMayCome (next_point (point_of setup other n) f) x fs) stage each.1) ends
      (subst (λ x. MayEnd setup (after_all setup (after setup other f) fs) (stage_after x fs)) stage too) tails)
    where
      with_heads : unplaced e ≡ unplaced f → AreOne (after setup s e) (after setup other f) es fs → AreOne s other (e ∷ es) (f ∷ fs)
      with_heads one rest = let tails : map unplaced es ≡ map unplaced fs = rest.0 in (cc, rest.1)

      by_kinds : (b c : Bool) → begins_event e ≡ b → begins_event f ≡ c
          → (unplaced e ≡ unplaced f → AreSameButForPlaces (events es) (events fs) → AreOne (after setup s e) (after setup other f) es fs)
          → AreOne s other (e ∷ es) (f ∷ fs)
      by_kinds true true begins starts later =
          let both : unplaced e ∷ map unplaced (events es) ≡ unplaced f ∷ map unplaced (events fs) = sym (ap (map unplaced) (head_begins e es begins)) ∙ alike
          ∙ ap (map unplaced) (head_begins f fs starts) in
          let one : unplaced e ≡ unplaced f = cc in
          let tails : map unplaced (events es) ≡ map unplaced (events fs) = cc in
          with_heads one (later one tails)
      by_kinds true false begins quiet later =
          let may = event_begins (point_of setup s n) t e begins all.0 in
          absurd (event_alone setup s is.consistent.tickets is.keeps.cursor t f may.0 may.1
          (quiet_back setup s other n t is its same f (granted_or_owed setup other n t f quiet each.0)))
      by_kinds false true quiet starts later =
          let may = event_begins (point_of setup other n) t f starts each.0 in
          absurd (event_alone setup other its.consistent.tickets its.keeps.cursor t e may.0 may.1
          (quiet_back setup other s n t its is (same_state-flip s other same) e (granted_or_owed setup s n t e quiet all.0)))
      by_kinds false false quiet still later =
          let same_one : e ≡ f =
          same_entry setup s is.consistent.tickets is.keeps.cursor t e f (granted_or_owed setup s n t e quiet all.0)
          (quiet_back setup s other n t is its same f (granted_or_owed setup other n t f still each.0)) in
          let one : unplaced e ≡ unplaced f = ap unplaced same_one in
          with_heads one (later one (sym (ap (map unplaced) (head_goes_on e es quiet)) ∙ alike ∙ ap (map unplaced) (head_goes_on f fs still)))

-- what begins an event is no matter of places
begins-same : (e f : Entry) → unplaced e ≡ unplaced f → begins_event f ≡ begins_event e
begins-same e f alike =
    elim (same_or_arrivals e f alike) [
      | inl it ↦ ap begins_event it.is_second ∙ sym (ap begins_event it.is_first)
      | inr it ↦ ap begins_event (sym it)
    ]

-- logs that are the same but for places are one where their events are
pub placed_alike : (es fs : List Entry) → AreSameButForPlaces es fs → events fs ≡ events es → fs ≡ es
placed_alike [] [] alike same = refl
placed_alike [] (f ∷ fs) alike same = let none : [] ≡ unplaced f ∷ map unplaced fs = alike in cc
placed_alike (e ∷ es) [] alike same = let none : unplaced e ∷ map unplaced es ≡ [] = alike in cc
placed_alike (e ∷ es) (f ∷ fs) alike same =
    let both : unplaced e ∷ map unplaced es ≡ unplaced f ∷ map unplaced fs = alike in
    let one : unplaced e ≡ unplaced f = cc in
    let rest : map unplaced es ≡ map unplaced fs = cc in
    by_kind one (begins_event e) refl (begins-same e f one) (placed_alike es fs rest)
  where
    by_kind : unplaced e ≡ unplaced f → (b : Bool) → begins_event e ≡ b → begins_event f ≡ begins_event e → (events fs ≡ events es → fs ≡ es) → f ∷ fs ≡ e ∷ es
    by_kind one true begins starts later =
        let heads : f ∷ events fs ≡ e ∷ events es = sym (head_begins f fs (starts ∙ begins)) ∙ same ∙ head_begins e es begins in
        let first : f ≡ e = cc in
        let tails : events fs ≡ events es = cc in
        let rest : fs ≡ es = later tails in
        cc
    by_kind one false quiet still later =
        let rest : fs ≡ es = later (sym (head_goes_on f fs (still ∙ quiet)) ∙ same ∙ head_goes_on e es quiet) in
        elim (same_or_arrivals e f one) [
          | inl it ↦ let begins : begins_event e ≡ true = ap begins_event it.is_first in false_true (sym quiet ∙ begins)
          | inr it ↦ let first : f ≡ e = sym it in cc
        ]

base_left : (h : History) → IsLegal h → IsLeft h.setup h.base granting
base_left h legal = record {
  consistent = base_consistent h.setup h.base legal.begins;
  keeps = record { rows = legal.begins.at_servers; cursor = legal.begins.cursor };
}

-- legal logs whose events are the same but for places, from bases that are
pub legal_determined : (h other : History) → IsLegal h → IsLegal other → other.setup ≡ h.setup → IsSameButForPlaces h.base other.base
    → AreSameButForPlaces (events h.log) (events other.log)
    → AreSameButForPlaces h.log other.log × IsSameButForPlaces (state_of h) (state_of other)
legal_determined h other legal its setups same alike = at_setup other.setup (sym setups) its
  where
    at_setup : (setup : Setup) → h.setup ≡ setup → IsLegal (record other { setup = setup })
        → AreSameButForPlaces h.log other.log × IsSameButForPlaces (state_of h) (after_all setup other.base other.log)
    at_setup setup is = subst (λ (x : Setup). IsLegal (record other { setup = x })
        → AreSameButForPlaces h.log other.log × IsSameButForPlaces (state_of h) (after_all x other.base other.log)) is
        (λ theirs.
        determined h.setup h.log other.log h.base other.base 0 granting (base_left h legal) (base_left (record other { setup = h.setup }) theirs) same
        legal.lawful.judged theirs.lawful.judged
        (record { over = legal.lawful.whole; settled = legal.lawful.settled }) (record { over = theirs.lawful.whole; settled = theirs.lawful.settled }) alike)

pub legal_one : (h other : History) → IsLegal h → IsLegal other → other.setup ≡ h.setup → other.base ≡ h.base → events other.log ≡ events h.log → other ≡ h
legal_one h other legal its setups bases same =
    let alike = legal_determined h other legal its setups (subst (IsSameButForPlaces h.base) (sym bases) (same_state-itself h.base))
    (ap (map unplaced) (sym same)) in
    let log : other.log ≡ h.log = placed_alike h.log other.log alike.0 same in
    whole setups bases log
  where
    whole : other.setup ≡ h.setup → other.base ≡ h.base → other.log ≡ h.log → other ≡ h
    whole setups bases log =
        ap (λ (x : Setup). record other { setup = x }) setups
        ∙ ap (λ (x : State). record other { setup = h.setup; base = x }) bases
        ∙ ap (λ (x : List Entry). record { setup = h.setup; base = h.base; log = x }) log
