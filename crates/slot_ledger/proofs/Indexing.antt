-- A ledger's places are kept when they are new, and stay kept when the index takes a ticket in or out.
use Rattle.std.proofs.Common.{◌≡◌, ℕ, ◌-◌, ◌<◌, ◌≤◌, List, [], ◌∷◌, ◌++◌, Option, None}
use Rattle.std.proofs.Common.{Some, is_some, length, count_by, replicate, slice_get, Contains, refl, ap, sym, ◌∙◌, subst, arith}
use Rattle.std.proofs.Math.ListN.{set, length-replicate}
use Rattle.std.proofs.lemmas.Option.{same_Some, slice_get_within}
use Rattle.base_lists.proofs.Pushed.{get-push_new}
use Rattle.base_lists.proofs.Replicated.{get-replicate, count-replicate, none_in_empty}
use Rattle.slot_ledger.specs.declared.places.Cell.{Cell}
use Rattle.slot_ledger.specs.Places.{PlacesAreKept}
use Rattle.slot_ledger.specs.Cells.{StandsIn, AreBelow}
use Rattle.slot_ledger.specs.Tickets.{Indexed, Removes}
use Rattle.slot_ledger.proofs.Keeping.{kept_admit, kept_end}

-- an empty place
abbrev none : (H : Type 0) → Option (Cell H)
none H = None

module _ {H : Type 0} where
  -- the last place of the list is free
  pub last_free : (cells : List (Option (Cell H))) (vacant rest : List ℕ) (capacity : ℕ) (index : Indexed) (p : ℕ) → PlacesAreKept cells vacant capacity index
      → vacant ≡ rest ++ p ∷ [] → slice_get cells p ≡ Some None
  last_free cells vacant rest capacity index p is parts = is.free (length rest) p (ap (λ (l : List ℕ). slice_get l (length rest)) parts ∙ get-push_new rest p)

  pub kept_push : (cells now : List (Option (Cell H))) (vacant rest : List ℕ) (capacity left : ℕ) (index new : Indexed) (p : ℕ) (t : Cell H)
      → cells ≡ now → PlacesAreKept cells vacant capacity index → vacant ≡ rest ++ p ∷ [] → left ≡ capacity → AreBelow t.row.key.ticket now
      → new.pairs ≡ index.pairs ++ (t.row.key.ticket, p) ∷ [] → new.room ≡ index.room
      → PlacesAreKept (set cells p (Some t)) rest left new
  kept_push cells now vacant rest capacity left index new p t same is parts kept below pushed room =
      kept_admit cells vacant rest capacity left index new p t is parts kept
      (subst (λ (l : List (Option (Cell H))). AreBelow t.row.key.ticket l) (sym same) below) pushed room

  pub kept_remove : (cells : List (Option (Cell H))) (vacant more : List ℕ) (capacity left : ℕ) (index new : Indexed) (p : ℕ) (s : Cell H)
      (cell : Option (Cell H))
      → PlacesAreKept cells vacant capacity index → cell ≡ None → StandsIn cells p s → more ≡ vacant ++ p ∷ [] → left ≡ capacity
      → Removes s.row.key.ticket index.pairs new.pairs → new.room ≡ index.room
      → PlacesAreKept (set cells p cell) more left new
  kept_remove cells vacant more capacity left index new p s cell is empty stands parts kept removed room =
      subst (λ (c : Option (Cell H)). PlacesAreKept (set cells p c) more left new) (sym empty)
      (kept_end cells vacant more capacity left index new p s is stands parts kept removed room)

  -- a new ledger: all places are free, the lowest last
  pub kept_new : (cells : List (Option (Cell H))) (vacant : List ℕ) (capacity places n : ℕ) (index : Indexed) → n ≡ places → cells ≡ replicate n None
      → length vacant ≡ n → ((at : ℕ) → at < n → slice_get vacant at ≡ Some (places - 1 - at)) → capacity ≡ places → index.pairs ≡ [] → places ≤ index.room
      → PlacesAreKept cells vacant capacity index
  kept_new cells vacant capacity places n index all are long each kept empty room = record {
    free = λ at p e.
        let within : at < length vacant = slice_get_within vacant at p e in
        let same : places - 1 - at ≡ p = same_Some (places - 1 - at) p (sym (each at (omega arith)) ∙ e) in
        subst (λ (l : List (Option (Cell H))). slice_get l p ≡ Some None) (sym are) (get-replicate n p (none H) (omega arith));
    once = λ at other p a b.
        let within : at < length vacant = slice_get_within vacant at p a in
        let within' : other < length vacant = slice_get_within vacant other p b in
        let same : places - 1 - at ≡ p = same_Some (places - 1 - at) p (sym (each at (omega arith)) ∙ a) in
        let same' : places - 1 - other ≡ p = same_Some (places - 1 - other) p (sym (each other (omega arith)) ∙ b) in
        omega arith;
    all =
        let count : count_by is_some cells ≡ 0 = ap (count_by is_some) are ∙ count-replicate is_some n (none H) refl in
        let len : length cells ≡ n = ap length are ∙ length-replicate n None in
        omega arith;
    room = let len : length cells ≡ n = ap length are ∙ length-replicate n None in omega arith;
    indexed = λ ticket p among. let none : Contains [] (ticket, p) = subst (λ (l : List (ℕ × ℕ)). Contains l (ticket, p)) empty among in
        absurd (omega (arith, none.1));
    complete = λ p s there. absurd (none_in_empty n p s (subst (λ (l : List (Option (Cell H))). StandsIn l p s) are there));
    own = λ p q s u a b e. absurd (none_in_empty n p s (subst (λ (l : List (Option (Cell H))). StandsIn l p s) are a));
    counted =
        let count : count_by is_some cells ≡ 0 = ap (count_by is_some) are ∙ count-replicate is_some n (none H) refl in
        let len : length index.pairs ≡ 0 = ap length empty in
        omega arith;
    index_room = let len : length cells ≡ n = ap length are ∙ length-replicate n None in omega arith;
  }
