-- What each call leaves of the cells.
use Rattle.std.proofs.Common.{◌≡◌, ◌≢◌, ℕ, zero, suc, add-one, replicate, ◌+◌, ◌<◌, ◌≤◌, ◌^◌, ◌⊎◌, ◌==◌, not, Bool, true, false, cond, ltb, List, [], ◌∷◌, ◌++◌, Option, Some, None, is_some, IsTrue, Contains, length, slice_get, refl, sym, ap, subst, ◌∙◌, inl, inr, arith, length-set}
use Rattle.std.proofs.Math.ListN.{set}
use Rattle.std.proofs.lemmas.Option.{same_Some, slice_get_within}
use Rattle.base_lists.proofs.Places.{get-set, get-set_same, get-set_other, set_read, same_or_other}
use Rattle.std.proofs.lemmas.Bool.Decides.{Decides-eqb, Decides-ltb}
use Rattle.base_lists.proofs.Members.{Contains-head, Contains-nil, Contains-filter}
use Rattle.base_lists.proofs.Replicated.{get-replicate, in_replicate}
use Rattle.std.proofs.lemmas.List.{length-replicate}
use Rattle.std.proofs.lemmas.List.Elements.{Contains-push_cases}
use Rattle.queue_waits.specs.Order.{Order, places_without, with_places}
use Rattle.loop_table.specs.declared.token.Token.{Token}
use Rattle.loop_table.specs.TokenTables.{HasValue, Table, IsNow, IsGone, IsVacantToken, IsOut, IsTokenTable, below, lent, closed}

pub other_place : (place p : ℕ) → not (place == p) ≡ true → place ≢ p
other_place place p e same = let t : (place == p) ≡ true = (Decides-eqb place p).1 same in let no : not true ≡ true = ap not (sym t) ∙ e in cc

pub first_among : (xs : List ℕ) (x : ℕ) → Some x ≡ slice_get xs 0 → Contains xs x
first_among [] x e = let no : Some x ≡ None = e in cc
first_among (y ∷ ys) x e = let same : x ≡ y = same_Some x y e in subst (Contains (y ∷ ys)) (sym same) (Contains-head y ys)

module _ {T : Type 0} (values : List (Option T)) (generations : List ℕ) (free : Order) (is : IsTokenTable values generations free) where
  pub low_value : (i : ℕ) → Contains free.places i → i < length values
  low_value i among = let low = is.free_below i among in let room = is.values_room in omega arith

  pub low_generation : (i : ℕ) → Contains free.places i → i < length generations
  low_generation i among = let low = is.free_below i among in let room = is.generations_room in omega arith

  -- a free cell is given away
  pub cells_given : (i : ℕ) (v : T) → Contains free.places i → IsTokenTable (set values i (Some v)) generations (with_places free (places_without i free.places))
  cells_given i v among = record {
    few = is.few;
    values_room = length-set values i (Some v) ∙ is.values_room;
    generations_room = is.generations_room;
    free_below = λ j still. is.free_below j (kept j still).0;
    free_empty = λ j still. get-set_other values i j (Some v) (kept j still).1 ∙ is.free_empty j (kept j still).0;
    free_young = λ j times still now. is.free_young j times (kept j still).0 now;
  }
    where
      kept : (j : ℕ) → Contains (places_without i free.places) j → Contains free.places j × (j ≢ i)
      kept j still = let it = Contains-filter _ free.places j still in (it.0, other_place j i it.1)

  -- a free cell is free no more, and stays empty
  pub cells_opened : (i : ℕ) → Contains free.places i → IsTokenTable values generations (with_places free (places_without i free.places))
  cells_opened i among = record {
    few = is.few;
    values_room = is.values_room;
    generations_room = is.generations_room;
    free_below = λ j still. is.free_below j (kept j still).0;
    free_empty = λ j still. is.free_empty j (kept j still).0;
    free_young = λ j times still now. is.free_young j times (kept j still).0 now;
  }
    where
      kept : (j : ℕ) → Contains (places_without i free.places) j → Contains free.places j × (j ≢ i)
      kept j still = let it = Contains-filter _ free.places j still in (it.0, other_place j i it.1)

  pub out_opened : (token : Token) → Contains free.places token.index → slice_get generations token.index ≡ Some token.generation
      → IsOut (record { values = values; generations = generations; free = places_without token.index free.places }) token
  out_opened token among now = record {
    now = now;
    there = is.free_empty token.index among;
    taken = λ still. let it = Contains-filter _ free.places token.index still in other_place token.index token.index it.1 refl;
  }

  -- a cell that isn't free gets a value, or loses it
  pub cells_written : (i : ℕ) (v : Option T) → ¬ (Contains free.places i) → IsTokenTable (set values i v) generations free
  cells_written i v taken = record {
    few = is.few;
    values_room = length-set values i v ∙ is.values_room;
    generations_room = is.generations_room;
    free_below = is.free_below;
    free_empty = λ j among. get-set_other values i j v (λ same. taken (subst (Contains free.places) same among)) ∙ is.free_empty j among;
    free_young = is.free_young;
  }

  -- what has a value isn't free
  pub held_taken : (i : ℕ) (v : T) → slice_get values i ≡ Some (Some v) → ¬ (Contains free.places i)
  held_taken i v held among =
      let no : None ≡ Some v = same_Some None (Some v) (sym (is.free_empty i among) ∙ held) in cc

  -- what is in a cell is taken out
  pub cells_taken : (i : ℕ) (was : Option T) (after : List (Option T)) → slice_get values i ≡ Some was → after ≡ set values i None → IsTokenTable after generations free
  cells_taken i None after e new = subst (λ (vs : List (Option T)). IsTokenTable vs generations free) (sym (new ∙ set_read values i None e)) is
  cells_taken i (Some v) after e new =
      subst (λ (vs : List (Option T)). IsTokenTable vs generations free) (sym new) (cells_written i None (held_taken i v e))

  -- a cell is closed, and is free again or never
  young : (i times : ℕ) → times < 2 ^ 40 → (j now : ℕ) → Contains (free.places ++ i ∷ []) j → ¬ (Contains free.places i) → slice_get (set generations i times) j ≡ Some now → now < 2 ^ 40
  young i times low j now among taken at = elim (Contains-push_cases free.places i j among) [
    | inl old ↦
        let apart : j ≢ i = λ same. taken (subst (Contains free.places) same old) in
        is.free_young j now old (sym (get-set_other generations i j times apart) ∙ at)
    | inr new ↦ by_new (get-set generations i j times now at) new
  ]
    where
      by_new : (times ≡ now) ⊎ (slice_get generations j ≡ Some now) → i ≡ j → now < 2 ^ 40
      by_new (inl e) new = subst (λ n. n < 2 ^ 40) e low
      by_new (inr e) new = subst (λ n. n < 2 ^ 40) (written e new) low
        where
          written : slice_get generations j ≡ Some now → i ≡ j → times ≡ now
          written e new =
              let there : slice_get (set generations i times) i ≡ Some times = get-set_same generations i now times (subst (λ k. slice_get generations k ≡ Some now) (sym new) e) in
              let at_i : slice_get (set generations i times) i ≡ Some now = subst (λ k. slice_get (set generations i times) k ≡ Some now) (sym new) at in
              same_Some times now (sym there ∙ at_i)

  pub cells_freed : (i times : ℕ) → i < length values → times < 2 ^ 40 → ¬ (Contains free.places i) → slice_get values i ≡ Some None
      → IsTokenTable values (set generations i times) (with_places free (free.places ++ i ∷ []))
  cells_freed i times within low taken empty = record {
    few = is.few;
    values_room = is.values_room;
    generations_room = length-set generations i times ∙ is.generations_room;
    free_below = λ j among.
        elim (Contains-push_cases free.places i j among) [
          | inl old ↦ is.free_below j old
          | inr new ↦ let room = is.values_room in omega arith
        ];
    free_empty = λ j among.
        elim (Contains-push_cases free.places i j among) [
          | inl old ↦ is.free_empty j old
          | inr new ↦ subst (λ k. slice_get values k ≡ Some None) new empty
        ];
    free_young = λ j now among at. young i times low j now among taken at;
  }

  pub cells_spent : (i times : ℕ) → ¬ (Contains free.places i) → IsTokenTable values (set generations i times) free
  cells_spent i times taken = record {
    few = is.few;
    values_room = is.values_room;
    generations_room = length-set generations i times ∙ is.generations_room;
    free_below = is.free_below;
    free_empty = is.free_empty;
    free_young = λ j now among at.
        let apart : j ≢ i = λ same. taken (subst (Contains free.places) same among) in
        is.free_young j now among (sym (get-set_other generations i j times apart) ∙ at);
  }

abbrev pub shown : {T : Type 0} → List (Option T) → List ℕ → Order → Table T
shown values generations free = record { values = values; generations = generations; free = free.places }

module _ {T : Type 0} (values : List (Option T)) (generations : List ℕ) (free : Order) (table : Table T) (view : shown values generations free ≡ table) where
  pub vacant : (token : Token) → slice_get generations token.index ≡ Some token.generation → Contains free.places token.index → IsVacantToken table token
  vacant token now among = subst (λ (t : Table T). IsVacantToken t token) view (record { now = now; free = among })

  pub unchanged : (i : ℕ) (after : List (Option T)) → slice_get values i ≡ Some None → after ≡ set values i None → shown after generations free ≡ table
  unchanged i after e new = ap (λ (vs : List (Option T)). shown vs generations free) (new ∙ set_read values i None e) ∙ view

  pub lent_now : (token : Token) (v : T) (after : List (Option T)) → IsNow table token → slice_get values token.index ≡ Some (Some v)
      → ¬ (Contains free.places token.index) → after ≡ set values token.index None
      → (shown after generations free ≡ lent table token) × IsOut (shown after generations free) token
  lent_now token v after now e taken new = (
    ap (λ (vs : List (Option T)). shown vs generations free) new ∙ ap (λ (t : Table T). lent t token) view,
    record {
      now = subst (λ (t : Table T). IsNow t token) (sym view) now;
      there = subst (λ (vs : List (Option T)). slice_get vs token.index ≡ Some None) (sym new) (get-set_same values token.index (Some v) None e);
      taken = taken;
    },
  )

  times_now : (token : Token) → IsNow table token → slice_get generations token.index ≡ Some token.generation
  times_now token now = subst (λ (t : Table T). IsNow t token) (sym view) now

  -- a token that is gone stays gone when another cell, or its own, is closed once more
  pub gone_on : (token other : Token) (places : List ℕ) → IsNow table token → IsGone table other
      → IsGone (record { values = values; generations = set generations token.index (token.generation + 1); free = places }) other
  gone_on token other places now gone = by_index (same_or_other other.index token.index)
    where
      was : slice_get generations other.index ≡ Some gone.times
      was = subst (λ (t : Table T). slice_get t.generations other.index ≡ Some gone.times) (sym view) gone.now

      by_index : (other.index ≡ token.index) ⊎ (other.index ≢ token.index)
          → IsGone (record { values = values; generations = set generations token.index (token.generation + 1); free = places }) other
      by_index (inl same) = record {
        times = token.generation + 1;
        now = subst (λ k. slice_get (set generations token.index (token.generation + 1)) k ≡ Some (token.generation + 1)) (sym same)
            (get-set_same generations token.index token.generation (token.generation + 1) (times_now token now));
        since =
            let e : gone.times ≡ token.generation =
            same_Some _ _ (sym was ∙ subst (λ k. slice_get generations k ≡ Some token.generation) (sym same) (times_now token now)) in
            let low = gone.since in
            omega arith;
      }
      by_index (inr differs) = record {
        times = gone.times;
        now = get-set_other generations token.index other.index (token.generation + 1) differs ∙ was;
        since = gone.since;
      }

  pub gone_now : (token : Token) (places : List ℕ) → IsNow table token
      → IsGone (record { values = values; generations = set generations token.index (token.generation + 1); free = places }) token
  gone_now token places now = record {
    times = token.generation + 1;
    now = get-set_same generations token.index token.generation (token.generation + 1) (times_now token now);
    since = omega arith;
  }

  pub closed_free : (token : Token) → token.generation + 1 < 2 ^ 40
      → record { values = values; generations = set generations token.index (token.generation + 1); free = free.places ++ token.index ∷ [] } ≡ closed table token
  closed_free token low =
      ap (λ (b : Bool). record {
        values = values;
        generations = set generations token.index (token.generation + 1);
        free = cond b (free.places ++ token.index ∷ []) free.places;
      }) (sym ((Decides-ltb (token.generation + 1) (2 ^ 40)).1 low))
      ∙ ap (λ (t : Table T). closed t token) view

  pub closed_spent : (token : Token) → 2 ^ 40 ≤ token.generation + 1
      → record { values = values; generations = set generations token.index (token.generation + 1); free = free.places } ≡ closed table token
  closed_spent token high =
      ap (λ (b : Bool). record {
        values = values;
        generations = set generations token.index (token.generation + 1);
        free = cond b (free.places ++ token.index ∷ []) free.places;
      }) (sym (not_below (ltb (token.generation + 1) (2 ^ 40)) refl))
      ∙ ap (λ (t : Table T). closed t token) view
    where
      not_below : (b : Bool) → ltb (token.generation + 1) (2 ^ 40) ≡ b → b ≡ false
      not_below false e = refl
      not_below true e = let low = (Decides-ltb (token.generation + 1) (2 ^ 40)).0 e in absurd (omega arith)

  pub out_taken : (token : Token) → IsOut table token → ¬ (Contains free.places token.index)
  out_taken token out = let it = subst (λ (t : Table T). IsOut t token) (sym view) out in it.taken

  pub out_empty : (token : Token) → IsOut table token → slice_get values token.index ≡ Some None
  out_empty token out = let it = subst (λ (t : Table T). IsOut t token) (sym view) out in it.there

  pub within_now : IsTokenTable values generations free → (token : Token) → IsNow table token → token.index < length values
  within_now is token now =
      let low : token.index < length generations = slice_get_within generations token.index token.generation (times_now token now) in
      let values_room = is.values_room in
      let generations_room = is.generations_room in
      omega arith

  pub held_yes : (token : Token) (o : Option T) (b : Bool) → IsNow table token → slice_get values token.index ≡ Some o → b ≡ is_some o → IsTrue b
      → (v : T) × HasValue table token v
  held_yes token None b now at e holds = let fails : false ≡ true = sym e ∙ holds in cc
  held_yes token (Some v) b now at e holds = (v, subst (λ (t : Table T). HasValue t token v) view (record { now = times_now token now; there = at }))

  pub held_others : (token : Token) (o : Option T) (b : Bool) → slice_get values token.index ≡ Some o → b ≡ is_some o → (v : T) → HasValue table token v → IsTrue b
  held_others token o b at e v holds =
      let h = subst (λ (t : Table T). HasValue t token v) (sym view) holds in
      let same : o ≡ Some v = same_Some o (Some v) (sym at ∙ h.there) in
      e ∙ ap is_some same

pub below_low : (n x : ℕ) → Contains (below n) x → x < n
below_low zero x among = absurd (Contains-nil x among)
below_low (suc n) x among = elim (Contains-push_cases (below n) n x among) [
  | inl old ↦ let low = below_low n x old in omega arith
  | inr new ↦ omega arith
]

pub below_next : (n : ℕ) → below (n + 1) ≡ below n ++ n ∷ []
below_next n = rw add-one refl

pub table_fresh : {T : Type 0} (free : Order) (values : List (Option T)) (generations : List ℕ) (room : ℕ) → room ≤ 2 ^ 20 → values ≡ replicate room None
    → generations ≡ replicate room 0 → free.places ≡ below room → free.room ≡ room → IsTokenTable values generations free
table_fresh {T} free values generations room few vs gs places same = record {
  few = omega arith;
  values_room = ap length vs ∙ length-replicate room None ∙ sym same;
  generations_room = ap length gs ∙ length-replicate room 0 ∙ sym same;
  free_below = λ i among. let low = low_room i among in omega arith;
  free_empty = λ i among.
      subst (λ (l : List (Option T)). slice_get l i ≡ Some None) (sym vs) (get-replicate room i None (low_room i among));
  free_young = λ i times among at.
      let zero_times : 0 ≡ times = in_replicate room i 0 times (subst (λ l. slice_get l i ≡ Some times) gs at) in omega arith;
}
  where
    low_room : (i : ℕ) → Contains free.places i → i < room
    low_room i among = below_low room i (subst (λ l. Contains l i) places among)
