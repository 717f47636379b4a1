-- What stands at a place, once the request there is changed.
use Rattle.std.proofs.Common.{◌≡◌, ℕ, List, Option, None, Some, option_map, slice_get, refl, ap, sym, ◌∙◌, subst}
use Rattle.std.proofs.Math.ListN.{set}
use Rattle.std.proofs.lemmas.Option.{get_or_from_slice_get}
use Rattle.base_lists.proofs.Places.{get-set_same}
use Rattle.log_entries.specs.declared.row.Row.{Row}
use Rattle.slot_ledger.specs.declared.places.Cell.{Cell}
use Rattle.slot_ledger.specs.Cells.{StandsIn, HasRow, HasNode, with_cell, loosened}

module _ {H : Type 0} where
  -- a change of the request at a place is a write there
  pub with_cell_at : (change : Cell H → Cell H) (cells : List (Option (Cell H))) (p : ℕ) (s : Cell H) → StandsIn cells p s
      → with_cell change cells p ≡ set cells p (Some (change s))
  with_cell_at change cells p s stands = ap (λ (cell : Option (Cell H)). set cells p (option_map change cell))
      (get_or_from_slice_get cells p (Some s) None stands)

  -- the changed request stands there
  pub changed_stands : (change : Cell H → Cell H) (cells new : List (Option (Cell H))) (p : ℕ) (s : Cell H) → StandsIn cells p s
      → new ≡ with_cell change cells p → StandsIn new p (change s)
  changed_stands change cells new p s stands is =
      subst (λ (l : List (Option (Cell H))). StandsIn l p (change s)) (sym (with_cell_at change cells p s stands)
      ∙ sym is) (get-set_same cells p (Some s) (Some (change s)) stands)

  -- so some request does
  pub still_stands : (change : Cell H → Cell H) (cells new : List (Option (Cell H))) (p : ℕ) → HasRow cells p → new ≡ with_cell change cells p → HasRow new p
  still_stands change cells new p has is = (change has.0, changed_stands change cells new p has.0 has.1 is)

  -- a request that was put at a free place stands there
  pub put_stands : (cells new : List (Option (Cell H))) (p : ℕ) (cell : Cell H) → slice_get cells p ≡ Some None → new ≡ set cells p (Some cell)
      → StandsIn new p cell
  put_stands cells new p cell free is = subst (λ (l : List (Option (Cell H))). StandsIn l p cell) (sym is) (get-set_same cells p None (Some cell) free)

  -- and once it has its node, it stands there with it
  pub admitted_stands : (cells mid new : List (Option (Cell H))) (p : ℕ) (row : Row) (node : H) → slice_get cells p ≡ Some None
      → mid ≡ set cells p (Some (record { row = row; node = None })) → new ≡ loosened node mid p → HasNode new p
  admitted_stands cells mid new p row node free is given =
      (_, node, changed_stands _ mid new p _ (put_stands cells mid p (record { row = row; node = None }) free is) given, refl)
