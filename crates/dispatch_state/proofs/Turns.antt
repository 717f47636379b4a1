-- Places in turn, while one begins or stops to wait.
use Rattle.std.proofs.Common.{◌≡◌, ◌≢◌, ℕ, ◌≤◌, ◌⊎◌, ◌==◌, Bool, true, false, not, cond, List, [], ◌∷◌, ◌++◌, Option}
use Rattle.std.proofs.Common.{Some, slice_get, filter, Contains, refl, ap, sym, ◌∙◌, subst, arith, inl, inr}
use Rattle.std.proofs.Math.ListN.{set}
use Rattle.std.proofs.lemmas.Bool.{eq-eqb, ne_eqb}
use Rattle.std.proofs.lemmas.List.Elements.{Contains-push, Contains-push_cases, Contains-append_left}
use Rattle.std.proofs.lemmas.Option.{same_Some}
use Rattle.log_entries.specs.declared.queue.Queue.{Queue}
use Rattle.log_entries.specs.declared.row.Phase.{Phase}
use Rattle.log_entries.specs.declared.row.Phase.TheVariants.{Waiting}
use Rattle.log_entries.specs.declared.row.Row.{Row}
use Rattle.log_entries.specs.Rows.{Rows}
use Rattle.base_lists.proofs.Places.{get-set_same, get-set_other, get-set_cases}
use Rattle.base_lists.proofs.Members.{Contains-head, Contains-tail, Contains-filter, Contains-filter_kept, each_from_members, each_at_member, all_filter}
use Rattle.queue_waits.specs.Order.{places_without}
use Rattle.dispatch_state.specs.Turns.{WaitsSince, NeverFall, AreInTurn}
use Rattle.dispatch_state.proofs.Resting.{NoneWaits}

-- what waits by one relation does by another
never_fall_weaker : (old new : ℕ → ℕ → Type 0) (places : List ℕ)
    → ((place since : ℕ) → Contains places place → new place since → old place since) → NeverFall old places → NeverFall new places
never_fall_weaker old new [] weaker fall = tt
never_fall_weaker old new (place ∷ later) weaker fall = (
  each_from_members (λ other. (since next : ℕ) → new place since → new other next → since ≤ next) later (λ other among since next first second.
      each_at_member (λ other. (since next : ℕ) → old place since → old other next → since ≤ next) later other fall.0 among since next
      (weaker place since (Contains-head place later) first) (weaker other next (Contains-tail place later other among) second)),
  never_fall_weaker old new later (λ other since among waits. weaker other since (Contains-tail place later other among) waits) fall.1,
)

never_fall_filter : (waits : ℕ → ℕ → Type 0) (test : ℕ → Bool) (places : List ℕ) → NeverFall waits places
    → NeverFall waits (filter test places)
never_fall_filter waits test [] fall = tt
never_fall_filter waits test (place ∷ later) fall = by_test (test place) (never_fall_filter waits test later fall.1)
  where
    by_test : (b : Bool) → NeverFall waits (filter test later) → NeverFall waits (cond b (place ∷ filter test later) (filter test later))
    by_test true rest = (all_filter (λ other. (since next : ℕ) → waits place since → waits other next → since ≤ next) test later fall.0, rest)
    by_test false rest = rest

never_fall_push : (waits : ℕ → ℕ → Type 0) (places : List ℕ) (last : ℕ)
    → ((place since next : ℕ) → Contains places place → waits place since → waits last next → since ≤ next) → NeverFall waits places
    → NeverFall waits (places ++ last ∷ [])
never_fall_push waits [] last before fall = (tt, tt)
never_fall_push waits (place ∷ later) last before fall = (
  each_from_members (λ other. (since next : ℕ) → waits place since → waits other next → since ≤ next) (later ++ last ∷ [])
      (λ other among since next first second.
      elim (Contains-push_cases later last other among) [
        | inl e ↦ each_at_member (λ other. (since next : ℕ) → waits place since → waits other next → since ≤ next) later other fall.0 e since next
            first second
        | inr e ↦ before place since next (Contains-head place later) first (subst (λ n. waits n next) (sym e) second)
      ]),
  never_fall_push waits later last (λ other since next among first second. before other since next (Contains-tail place later other among) first second)
      fall.1,
)

-- the same places in turn, later on
pub turn_alike : (old new : ℕ → ℕ → Type 0) (before now : ℕ) (places : List ℕ) → AreInTurn old before places
    → ((place since : ℕ) → old place since → new place since) → ((place since : ℕ) → new place since → old place since) → before ≤ now
    → AreInTurn new now places
turn_alike old new before now places are on back later = record {
  waiting = λ place among. let it = are.waiting place among in (it.0, on place it.0 it.1);
  all = λ place since waits. are.all place since (back place since waits);
  never_fall = never_fall_weaker old new places (λ place since among waits. back place since waits) are.never_fall;
  past = λ place since waits. let past = are.past place since (back place since waits) in omega arith;
}

-- one place less
pub turn_without : (waits : ℕ → ℕ → Type 0) (now : ℕ) (places : List ℕ) (place : ℕ) → AreInTurn waits now places
    → AreInTurn (λ other since. (other ≢ place) × waits other since) now (places_without place places)
turn_without waits now places place are = record {
  waiting = λ other among.
      let kept = Contains-filter (λ n. not (n == place)) places other among in
      let it = are.waiting other kept.0 in
      (it.0, (λ same. passed other same kept.1, it.1));
  all = λ other since its. Contains-filter_kept (λ n. not (n == place)) places other (are.all other since its.1) (ap not (ne_eqb other place its.0));
  never_fall =
      never_fall_weaker waits (λ other since. (other ≢ place) × waits other since) (places_without place places) (λ other since among its. its.1)
      (never_fall_filter waits (λ n. not (n == place)) places are.never_fall);
  past = λ other since its. are.past other since its.1;
}
  where
    passed : (other : ℕ) → other ≡ place → not (other == place) ≡ true → ⊥
    passed other same kept = let no : true ≡ false = sym kept ∙ ap not (eq-eqb other place same) in cc

-- one place more, which begins to wait now
abbrev pub OrNow : (ℕ → ℕ → Type 0) → ℕ → ℕ → ℕ → ℕ → Type 0
OrNow waits place now other since = waits other since ⊎ ((other ≡ place) × (since ≡ now))

pub turn_push : (waits : ℕ → ℕ → Type 0) (now : ℕ) (places : List ℕ) (place : ℕ) → AreInTurn waits now places
    → ((since : ℕ) → waits place since → ⊥) → AreInTurn (OrNow waits place now) now (places ++ place ∷ [])
turn_push waits now places place are none = record {
  waiting = λ other among.
      elim (Contains-push_cases places place other among) [
        | inl e ↦ let it = are.waiting other e in (it.0, inl it.1)
        | inr e ↦ (now, inr (sym e, refl))
      ];
  all = λ other since its.
      elim its [
        | inl e ↦ Contains-append_left places (place ∷ []) other (are.all other since e)
        | inr e ↦ subst (λ n. Contains (places ++ place ∷ []) n) (sym e.0) (Contains-push places place)
      ];
  never_fall =
      never_fall_push (OrNow waits place now) places place (λ other since next among first second. last_of other since next first second)
      (never_fall_weaker waits (OrNow waits place now) places (λ other since among its. old_of other since among its) are.never_fall);
  past = λ other since its. past_of other since its;
}
  where
    past_of : (other since : ℕ) → OrNow waits place now other since → since ≤ now
    past_of other since (inl e) = are.past other since e
    past_of other since (inr e) = let same = e.1 in omega arith

    last_of : (other since next : ℕ) → OrNow waits place now other since → OrNow waits place now place next → since ≤ next
    last_of other since next first (inl e) = absurd (none next e)
    last_of other since next first (inr e) = let past = past_of other since first in let same = e.1 in omega arith

    old_of : (other since : ℕ) → Contains places other → OrNow waits place now other since → waits other since
    old_of other since among (inl e) = e
    old_of other since among (inr e) = let it = are.waiting other among in absurd (none it.0 (subst (λ n. waits n it.0) e.0 it.1))

-- a place without a row that waits
abbrev pub Rests : Option Row → Type 0
Rests cell = (queue : Queue) → NoneWaits queue cell

not_since : (rows : Rows) (p since : ℕ) (cell : Option Row) → slice_get rows p ≡ Some cell → Rests cell → WaitsSince rows p since → ⊥
not_since rows p since cell at rests waits = rests waits.1 waits.0 since (same_Some cell (Some waits.0) (sym at ∙ waits.2)) waits.3

-- a row waits elsewhere, whatever stands at a place
since_other : (rows : Rows) (p : ℕ) (cell : Option Row) (k since : ℕ) → k ≢ p → WaitsSince rows k since → WaitsSince (set rows p cell) k since
since_other rows p cell k since other waits = (waits.0, waits.1, get-set_other rows p k cell other ∙ waits.2, waits.3)

-- what waits after a write waited elsewhere, or is what was written
since_cases : (rows : Rows) (p : ℕ) (old cell : Option Row) (k since : ℕ) → slice_get rows p ≡ Some old → WaitsSince (set rows p cell) k since
    → ((k ≢ p) × WaitsSince rows k since) ⊎ ((k ≡ p) × ((queue : Queue) × (row : Row) × (cell ≡ Some row) × (row.phase ≡ Waiting queue since)))
since_cases rows p old cell k since stood waits = elim (get-set_cases rows p k old cell (Some waits.0) stood waits.2) [
  | inl e ↦ inr (e.0, (waits.1, waits.0, e.1, waits.3))
  | inr e ↦ inl (e.0, (waits.0, waits.1, e.1, waits.3))
]

-- a row that doesn't wait becomes one that doesn't
pub rows_rest : (rows : Rows) (p before now : ℕ) (old cell : Option Row) (places : List ℕ) → AreInTurn (WaitsSince rows) before places
    → slice_get rows p ≡ Some old → Rests old → Rests cell → before ≤ now → AreInTurn (WaitsSince (set rows p cell)) now places
rows_rest rows p before now old cell places are stood first second later =
    turn_alike (WaitsSince rows) (WaitsSince (set rows p cell)) before now places are
    (λ k since waits. since_other rows p cell k since (λ same. not_since rows p since old stood first (subst (λ n. WaitsSince rows n since) same waits))
    waits)
    (λ k since waits.
    elim (since_cases rows p old cell k since stood waits) [
      | inl e ↦ e.1
      | inr e ↦ absurd (second e.1.0 e.1.1 since e.1.2 e.1.3)
    ])
    later

-- a row waits no more
pub rows_left : (rows : Rows) (p now : ℕ) (old cell : Option Row) (places : List ℕ) → AreInTurn (WaitsSince rows) now places
    → slice_get rows p ≡ Some old → Rests cell → AreInTurn (WaitsSince (set rows p cell)) now (places_without p places)
rows_left rows p now old cell places are stood rests =
    turn_alike (λ other since. (other ≢ p) × WaitsSince rows other since) (WaitsSince (set rows p cell)) now now (places_without p places)
    (turn_without (WaitsSince rows) now places p are)
    (λ k since its. since_other rows p cell k since its.0 its.1)
    (λ k since waits.
    elim (since_cases rows p old cell k since stood waits) [
      | inl e ↦ e
      | inr e ↦ absurd (rests e.1.0 e.1.1 since e.1.2 e.1.3)
    ])
    (omega arith)

-- a row begins to wait
pub rows_joined : (rows : Rows) (p now : ℕ) (queue : Queue) (old : Option Row) (next : Row) (places : List ℕ) → AreInTurn (WaitsSince rows) now places
    → slice_get rows p ≡ Some old → Rests old → next.phase ≡ Waiting queue now
    → AreInTurn (WaitsSince (set rows p (Some next))) now (places ++ p ∷ [])
rows_joined rows p now queue old next places are stood rests waits =
    turn_alike (OrNow (WaitsSince rows) p now) (WaitsSince (set rows p (Some next))) now now (places ++ p ∷ [])
    (turn_push (WaitsSince rows) now places p are (λ since. not_since rows p since old stood rests))
    (λ k since its. on k since its)
    (λ k since its. back k since its)
    (omega arith)
  where
    on : (k since : ℕ) → OrNow (WaitsSince rows) p now k since → WaitsSince (set rows p (Some next)) k since
    on k since (inl e) =
        since_other rows p (Some next) k since (λ same. not_since rows p since old stood rests (subst (λ n. WaitsSince rows n since) same e)) e
    on k since (inr e) =
        subst (λ n. WaitsSince (set rows p (Some next)) n since) (sym e.0)
        (next, queue, get-set_same rows p old (Some next) stood, waits ∙ ap (λ n. Waiting queue n) (sym e.1))

    since_is : (a b : Phase) → a ≡ b → (q r : Queue) (m n : ℕ) → a ≡ Waiting q m → b ≡ Waiting r n → m ≡ n
    since_is a b e q r m n x y = let w : Waiting q m ≡ Waiting r n = sym x ∙ e ∙ y in cc

    back : (k since : ℕ) → WaitsSince (set rows p (Some next)) k since → OrNow (WaitsSince rows) p now k since
    back k since its = elim (since_cases rows p old (Some next) k since stood its) [
      | inl e ↦ inl e.1
      | inr e ↦ inr (e.0, since_is e.1.1.phase next.phase (ap (λ (r : Row). r.phase) (sym (same_Some next e.1.1 e.1.2))) e.1.0 queue since now e.1.3 waits)
    ]
