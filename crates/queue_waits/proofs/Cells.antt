-- The cells of an order, and what each change leaves in them.
use Rattle.std.proofs.Common.{◌≡◌, ◌≢◌, ℕ, ◌+◌, ◌<◌, ◌≤◌, ◌⊎◌, ◌↔◌, true, not, List, [], ◌∷◌, ◌++◌}
use Rattle.std.proofs.Common.{Contains, Some, None, cond, eqb, ltb, length, set, get_or, slice_get, refl, sym, ap, subst, ◌∙◌, inl, inr, IsTrue, arith}
use Rattle.std.proofs.Common.{get_or-set_same, get_or-set_other, length-set}
use Rattle.std.specs.Prelude.{slice_index}
use Rattle.std.proofs.lemmas.Bool.{eq-eqb, ne_eqb, ltb-true, cases_eq, true≢false}
use Rattle.std.proofs.lemmas.List.{get_or_default}
use Rattle.std.proofs.lemmas.List.Elements.{Contains-append_left, Contains-append_right, Contains-push, Contains-push_cases}
use Rattle.queue_waits.specs.Order.{Order, IsOrder, places_without, next_after}
use Rattle.queue_waits.specs.Links.{AreLinked, places_of, IsLinked}
use Rattle.base_lists.proofs.Members.{Contains-nil, Contains-tail, Contains-cases, Contains-middle, Contains-around, Contains-around_cases}
use Rattle.base_lists.proofs.Once.{contains_or_not, once_within, split_at, not_before, not_after, once_around, once_push}
use Rattle.queue_waits.proofs.Members.{without_parts}
use Rattle.queue_waits.proofs.Rings.{before_in, last_in, head_next, linked_after, walk_is, first_is, next_after_parts, unlinked, linked_at_end}

module _ (n v : List ℕ) (room : ℕ) (places : List ℕ) (is : IsLinked n v room places) where
  end_apart : ¬ (Contains places room)
  end_apart among = let low = is.below room among in absurd (omega arith)

  -- the places are those of the ring
  pub read : places_of n room ≡ places
  read = walk_is (slice_index n) (slice_index v) room places room room is.ring end_apart (once_within room places is.once is.below)

  -- a cell of the ring
  on_ring : (cell : ℕ) → Contains (room ∷ places) cell → cell < room + 1
  on_ring cell among = elim (Contains-cases room places cell among) [
    | inl same ↦ omega arith
    | inr place ↦ let low = is.below cell place in omega arith
  ]

  pub last_cell : slice_index v room < room + 1
  last_cell = on_ring (slice_index v room) (last_in (slice_index n) (slice_index v) room places room is.ring)

  pub first_place : slice_get places 0 ≡ cond (eqb (slice_index n room) room) None (Some (slice_index n room))
  first_place = first_is (slice_index n) (slice_index v) room places room is.ring end_apart

-- one place and its neighbours
module _ (n v : List ℕ) (room : ℕ) (xs : List ℕ) (p : ℕ) (ys : List ℕ) (is : IsLinked n v room (xs ++ p ∷ ys)) where
  f : ℕ → ℕ
  f = slice_index n

  low : p < room
  low = is.below p (Contains-middle xs p ys)

  onward : AreLinked (slice_index n) (slice_index v) p ys room
  onward = linked_after (slice_index n) (slice_index v) room xs p ys room is.ring

  later_apart : ¬ (Contains ys room)
  later_apart among = let least = is.below room (Contains-append_right xs (p ∷ ys) room (Contains-tail p ys room among)) in absurd (omega arith)

  before_parts : Contains (room ∷ xs) (slice_index v p)
  before_parts = before_in (slice_index n) (slice_index v) room xs p ys room is.ring

  before_other : slice_index v p ≢ p
  before_other same = elim (Contains-cases room xs p (subst (Contains (room ∷ xs)) same before_parts)) [
    | inl end ↦ let least = low in absurd (omega arith)
    | inr among ↦ not_before xs p ys is.once among
  ]

  before_cell : slice_index v p < room + 1
  before_cell = elim (Contains-cases room xs (slice_index v p) before_parts) [
    | inl end ↦ omega arith
    | inr among ↦ let least = is.below (slice_index v p) (Contains-append_left xs (p ∷ ys) (slice_index v p) among) in omega arith
  ]

  next_cases : Contains ys (slice_index n p) ⊎ (slice_index n p ≡ room)
  next_cases = head_next (slice_index n) (slice_index v) p ys room onward

  next_other : slice_index n p ≢ p
  next_other same = elim next_cases [
    | inl among ↦ not_after xs p ys is.once (subst (Contains ys) same among)
    | inr end ↦ let least = low in absurd (omega arith)
  ]

  next_cell : slice_index n p < room + 1
  next_cell = elim next_cases [
    | inl among ↦ let least =
        is.below (slice_index n p) (Contains-append_right xs (p ∷ ys) (slice_index n p) (Contains-tail p ys (slice_index n p) among)) in omega arith
    | inr end ↦ omega arith
  ]

  after_parts : next_after p (xs ++ p ∷ ys) ≡ cond (eqb (slice_index n p) room) None (Some (slice_index n p))
  after_parts = next_after_parts xs p ys is.once ∙ first_is (slice_index n) (slice_index v) p ys room onward later_apart

  removed_parts : IsLinked (set (set n (slice_index v p) (slice_index n p)) p p) (set v (slice_index n p) (slice_index v p)) room (xs ++ ys)
  removed_parts =
      let some = low in
      let from_cell = before_cell in
      let to_cell = next_cell in
      let before : ℕ = slice_index v p in
      let after : ℕ = slice_index n p in
      let cells = is.next_cells in
      let back_cells = is.previous_cells in
      let joined = length-set n before after in
      let placed = length-set (set n before after) p p in
      let joined_back = length-set v after before in
      record {
        next_cells = omega arith;
        previous_cells = omega arith;
        ring = unlinked (slice_index n) (slice_index v) (slice_index (set (set n before after) p p)) (slice_index (set v after before)) p
            (get_or-set_other (set n before after) p before p 0 before_other ∙ get_or-set_same n before after 0 (omega arith))
            (get_or-set_same v after before 0 (omega arith))
            (λ z not_first not_place. get_or-set_other (set n before after) p z p 0 not_place ∙ get_or-set_other n before z after 0 not_first)
            (λ z other. get_or-set_other v after z before 0 other)
            room xs ys room is.ring (end_apart n v room (xs ++ p ∷ ys) is) is.once (end_apart n v room (xs ++ p ∷ ys) is);
        once = once_around xs p ys is.once;
        below = λ place among. is.below place (Contains-around xs p ys place among);
        others = λ place least absent. elim (cases_eq p place) [
          | inl same ↦ subst (λ z. slice_index (set (set n before after) p p) z ≡ z) same (get_or-set_same (set n before after) p p 0 (omega arith))
          | inr other ↦
              let not_first : place ≢ before = λ same. elim (Contains-cases room xs before before_parts) [
                | inl end ↦ absurd (omega arith)
                | inr among ↦ absent (subst (λ z. Contains (xs ++ ys) z) (sym same) (Contains-append_left xs ys before among))
              ] in
              get_or-set_other (set n before after) p place p 0 (λ same. other (sym same)) ∙ get_or-set_other n before place after 0 not_first
              ∙ is.others place least
              (λ among. elim (Contains-around_cases xs p ys place among) [ inl same ↦ other same | inr around ↦ absent around ])
        ];
      }

-- the same by membership
module _ (n v : List ℕ) (room : ℕ) (places : List ℕ) (is : IsLinked n v room places) (p : ℕ) where
  module _ (among : Contains places p) where
    around : (xs ys : List ℕ) → places ≡ xs ++ p ∷ ys → IsLinked n v room (xs ++ p ∷ ys)
    around xs ys parts = subst (IsLinked n v room) parts is

    pub before_within : slice_index v p < room + 1
    before_within = let split = split_at places p among in before_cell n v room split.before p split.after (around split.before split.after split.parts)

    pub next_within : slice_index n p < room + 1
    next_within = let split = split_at places p among in next_cell n v room split.before p split.after (around split.before split.after split.parts)

    pub leads_on : slice_index n p ≢ p
    leads_on = let split = split_at places p among in next_other n v room split.before p split.after (around split.before split.after split.parts)

    pub after_is : next_after p places ≡ cond (eqb (slice_index n p) room) None (Some (slice_index n p))
    after_is = let split =
        split_at places p among in ap (next_after p) split.parts
        ∙ after_parts n v room split.before p split.after (around split.before split.after split.parts)

    pub removed : IsLinked (set (set n (slice_index v p) (slice_index n p)) p p) (set v (slice_index n p) (slice_index v p)) room (places_without p places)
    removed =
        let split = split_at places p among in
        let linked = around split.before split.after split.parts in
        subst (IsLinked (set (set n (slice_index v p) (slice_index n p)) p p) (set v (slice_index n p) (slice_index v p)) room)
        (sym (ap (places_without p) split.parts ∙ without_parts split.before p split.after linked.once))
        (removed_parts n v room split.before p split.after linked)

  pub contains_is : p < room → IsTrue (not (eqb (slice_index n p) p)) ↔ Contains places p
  contains_is least = (
    λ leads. elim (contains_or_not places p) [
      | inl among ↦ among
      | inr absent ↦ let stays : eqb (slice_index n p) p ≡ true = eq-eqb (slice_index n p) p (is.others p least absent) in
          absurd (true≢false (sym (subst (λ b. IsTrue (not b)) stays leads)))
    ],
    λ among. subst (λ b. IsTrue (not b)) (sym (ne_eqb (slice_index n p) p (leads_on among))) refl,
  )

  pub appended : p < room → ¬ (Contains places p) → IsLinked (set (set n (slice_index v room) p) p room) (set (set v p (slice_index v room)) room p) room
      (places ++ p ∷ [])
  appended least absent =
      let last : ℕ = slice_index v room in
      let last_parts : Contains (room ∷ places) last = last_in (slice_index n) (slice_index v) room places room is.ring in
      let last_within : last < room + 1 = last_cell n v room places is in
      let not_end : p ≢ room = λ same. absurd (omega arith) in
      let not_on_ring : ¬ (Contains (room ∷ places) p) =
      λ among. elim (Contains-cases room places p among) [ inl end ↦ not_end (sym end) | inr place ↦ absent place ] in
      let not_last : last ≢ p = λ same. not_on_ring (subst (Contains (room ∷ places)) same last_parts) in
      let cells = is.next_cells in
      let back_cells = is.previous_cells in
      let led = length-set n last p in
      let ended = length-set (set n last p) p room in
      let led_back = length-set v p last in
      let ended_back = length-set (set v p last) room p in
      record {
        next_cells = omega arith;
        previous_cells = omega arith;
        ring = linked_at_end (slice_index n) (slice_index v) (slice_index (set (set n last p) p room)) (slice_index (set (set v p last) room p)) p room
            (get_or-set_other (set n last p) p last room 0 not_last ∙ get_or-set_same n last p 0 (omega arith))
            (get_or-set_other (set v p last) room p p 0 not_end ∙ get_or-set_same v p last 0 (omega arith))
            (get_or-set_same (set n last p) p room 0 (omega arith))
            (get_or-set_same (set v p last) room p 0 (omega arith))
            (λ z not_tail not_place. get_or-set_other (set n last p) p z room 0 not_place ∙ get_or-set_other n last z p 0 not_tail)
            (λ z not_place not_room. get_or-set_other (set v p last) room z p 0 not_room ∙ get_or-set_other v p z last 0 not_place)
            room places is.ring (end_apart n v room places is) is.once (end_apart n v room places is) not_on_ring;
        once = once_push places p is.once absent;
        below = λ place among. elim (Contains-push_cases places p place among) [ inl before ↦ is.below place before | inr same ↦ omega arith ];
        others = λ place least out.
            let not_place : place ≢ p = λ same. out (subst (λ z. Contains (places ++ p ∷ []) z) (sym same) (Contains-push places p)) in
            let not_tail : place ≢ last = λ same. elim (Contains-cases room places last last_parts) [
              | inl end ↦ absurd (omega arith)
              | inr among ↦ out (subst (λ z. Contains (places ++ p ∷ []) z) (sym same) (Contains-append_left places (p ∷ []) last among))
            ] in
            get_or-set_other (set n last p) p place room 0 not_place ∙ get_or-set_other n last place p 0 not_tail
            ∙ is.others place least (λ among. out (Contains-append_left places (p ∷ []) place among));
      }

-- cells that all lead to themselves hold no places
pub made : (n v : List ℕ) (room count : ℕ) → count ≡ room + 1 → length n ≡ count → length v ≡ count
    → ((cell : ℕ) → cell < count → get_or n cell 0 ≡ cell) → ((cell : ℕ) → cell < count → get_or v cell 0 ≡ cell) → IsLinked n v room []
made n v room count all cells back_cells leads leads_back = record {
  next_cells = omega arith;
  previous_cells = omega arith;
  ring = (leads room (omega arith), leads_back room (omega arith));
  once = tt;
  below = λ place among. absurd (Contains-nil place among);
  others = λ place least absent. leads place (omega arith);
}

-- cells that hold places, as the order shows them
abbrev pub order_of : List ℕ → ℕ → Order
order_of places room = record { places = places; room = room }

pub shown : (n v : List ℕ) (room : ℕ) (places : List ℕ) → IsLinked n v room places → order_of (places_of n room) room ≡ order_of places room
shown n v room places is = ap (λ l. order_of l room) (read n v room places is)

pub kept : (n v : List ℕ) (room : ℕ) (places : List ℕ) → IsLinked n v room places → IsLinked n v room (places_of n room)
kept n v room places is = subst (IsLinked n v room) (sym (read n v room places is)) is

-- an order, by its cells
module _ (n v : List ℕ) (room : ℕ) (order : Order) (seen : order_of (places_of n room) room ≡ order) (is : IsLinked n v room (places_of n room)) where
  pub is_order : IsOrder order
  is_order = subst IsOrder seen (record { once = is.once; below = is.below })

  module _ (p : ℕ) where
    shown_absent : ¬ (Contains order.places p) → ¬ (Contains (places_of n room) p)
    shown_absent absent among = absent (subst (λ (o : Order). Contains o.places p) seen among)

    shown_within : p < order.room → p < room
    shown_within within = subst (λ (o : Order). p < o.room) (sym seen) within

    module _ (at : ℕ) (at_is : at ≡ get_or n p at) where
      pub tells : p < room → IsTrue (not (eqb at p)) ↔ Contains order.places p
      tells low =
          let cells = is.next_cells in
          let value : at ≡ slice_index n p = at_is ∙ get_or_default n p at 0 (omega arith) in
          subst (λ k. IsTrue (not (eqb k p)) ↔ Contains order.places p) (sym value)
          (subst (λ (o : Order). IsTrue (not (eqb (slice_index n p) p)) ↔ Contains o.places p) seen (contains_is n v room (places_of n room) is p low))

    module _ (joined : Contains order.places p) where
      among : Contains (places_of n room) p
      among = subst (λ (o : Order). Contains o.places p) (sym seen) joined

      pub place_within : p < room
      place_within = is.below p among

      pub follows : (at : ℕ) → at ≡ get_or n p at → next_after p order.places ≡ cond (eqb at room) None (Some at)
      follows at at_is =
          let low = place_within in
          let cells = is.next_cells in
          let value : at ≡ slice_index n p = at_is ∙ get_or_default n p at 0 (omega arith) in
          ap (λ (o : Order). next_after p o.places) (sym seen) ∙ after_is n v room (places_of n room) is p among
          ∙ ap (λ k. cond (eqb k room) None (Some k)) (sym value)

      -- the neighbours that the cells of a place name
      module _ (before after : ℕ) (before_is : before ≡ get_or v p before) (after_is : after ≡ get_or n p after) where
        before_value : before ≡ slice_index v p
        before_value = let low = place_within in let cells = is.previous_cells in before_is ∙ get_or_default v p before 0 (omega arith)

        after_value : after ≡ slice_index n p
        after_value = let low = place_within in let cells = is.next_cells in after_is ∙ get_or_default n p after 0 (omega arith)

        pub neighbours_within : (before < room + 1) × (after < room + 1)
        neighbours_within = (
          subst (λ k. k < room + 1) (sym before_value) (before_within n v room (places_of n room) is p among),
          subst (λ k. k < room + 1) (sym after_value) (next_within n v room (places_of n room) is p among),
        )

        pub removal : (n' v' : List ℕ) → n' ≡ set n before after → v' ≡ set v after before → IsLinked (set n' p p) v' room (places_without p order.places)
        removal n' v' forth back =
            let value = before_value in
            let next_value = after_value in
            let places = ap (λ (o : Order). places_without p o.places) seen in
            let out = removed n v room (places_of n room) is p among in
            let cells : set (set n (slice_index v p) (slice_index n p)) p p ≡ set n' p p = cc in
            let back_cells : set v (slice_index n p) (slice_index v p) ≡ v' = cc in
            subst (IsLinked (set n' p p) v' room) places
            (subst (λ l. IsLinked (set n' p p) l room (places_without p (places_of n room))) back_cells
            (subst (λ l. IsLinked l (set v (slice_index n p) (slice_index v p)) room (places_without p (places_of n room))) cells out))

    pub none_above : room ≤ p → IsTrue (ltb p room) ↔ Contains order.places p
    none_above high = (
      λ below. let low = ltb-true p room below in absurd (omega arith),
      λ joined. let low = place_within joined in absurd (omega arith),
    )

    -- the last cell, as the cell at the end names it
    module _ (last : ℕ) (last_is : last ≡ get_or v room last) where
      last_value : last ≡ slice_index v room
      last_value = let cells = is.previous_cells in last_is ∙ get_or_default v room last 0 (omega arith)

      pub last_within : last < room + 1
      last_within = subst (λ k. k < room + 1) (sym last_value) (last_cell n v room (places_of n room) is)

      pub addition : p < order.room → ¬ (Contains order.places p) → (n' v' n'' v'' : List ℕ) → n' ≡ set n last p → v' ≡ set v p last
          → n'' ≡ set n' p room → v'' ≡ set v' room p → IsLinked n'' v'' room (order.places ++ p ∷ [])
      addition within absent n' v' n'' v'' forth back end end_back =
          let value = last_value in
          let places = ap (λ (o : Order). o.places ++ p ∷ []) seen in
          let put = appended n v room (places_of n room) is p (shown_within within) (shown_absent absent) in
          let cells : set (set n (slice_index v room) p) p room ≡ n'' = cc in
          let back_cells : set (set v p (slice_index v room)) room p ≡ v'' = cc in
          subst (IsLinked n'' v'' room) places
          (subst (λ l. IsLinked n'' l room (places_of n room ++ p ∷ [])) back_cells
          (subst (λ l. IsLinked l (set (set v p (slice_index v room)) room p) room (places_of n room ++ p ∷ [])) cells put))
