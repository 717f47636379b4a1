-- The heads of the queues where one request waits.
use Rattle.std.proofs.Common.{◌≡◌, ◌≢◌, ℕ, List, Option, None, Some, IsTrue, replicate}
use Rattle.std.proofs.Common.{option_map, slice_get, refl, ap, sym, ◌∙◌, subst, inl, inr, Less, Greater}
use Rattle.std.proofs.Math.ListN.{set}
use Rattle.std.proofs.lemmas.Option.{same_Some, slice_get-map}
use Rattle.due_key.specs.declared.key.Key.{Key}
use Rattle.due_key.specs.Order.{key_cmp}
use Rattle.due_key.proofs.KeyOrder.{key_cmp_total}
use Rattle.base_lists.proofs.Orders.{less_from_greater}
use Rattle.base_lists.proofs.Places.{get-set_cases}
use Rattle.base_lists.proofs.Replicated.{none_in_empty}
use Rattle.log_entries.specs.declared.queue.Queue.TheVariants.{Backend, Server}
use Rattle.log_entries.specs.declared.row.Phase.{Phase}
use Rattle.log_entries.specs.declared.row.Phase.TheVariants.{Waiting}
use Rattle.log_entries.specs.declared.row.Row.{Row}
use Rattle.log_entries.specs.Rows.{Rows, IsRow, StandsAt, phase_waits_in}
use Rattle.slot_ledger.specs.declared.places.Cell.{Cell}
use Rattle.slot_ledger.specs.Cells.{StandsIn, rows_in}
use Rattle.slot_ledger.proofs.Standing.{put_stands}
use Rattle.server_pick.specs.declared.heads.Heads.{Heads}
use Rattle.server_pick.specs.Heads.{AreHeads, IsHead}

-- a key is not greater than itself
not_above : (k : Key) → key_cmp k k ≢ Greater
not_above k greater = let less : key_cmp k k ≡ Less = less_from_greater key_cmp_total k k greater in cc

-- the backend's head is the one request's key, and another queue has none
pub heads_of_one : (heads : Heads) (server : ℕ) (rows : Rows) (p : ℕ) (row : Row) (since : ℕ) → StandsAt rows p row
    → ((other : Row) → IsRow rows other → row ≡ other) → row.phase ≡ Waiting Backend since
    → heads.own ≡ None → heads.backend ≡ Some row.key → AreHeads heads server rows
heads_of_one heads server rows p row since stands only phase none head = record {
  own = subst (λ (h : Option Key). IsHead h (Server server) rows) (sym none) (λ other live waits.
      let own : IsTrue (phase_waits_in (Server server) (Waiting Backend since)) =
      subst (λ (it : Phase). IsTrue (phase_waits_in (Server server) it)) phase
      (subst (λ (r : Row). IsTrue (phase_waits_in (Server server) r.phase)) (sym (only other live)) waits) in
      cc);
  backend = subst (λ (h : Option Key). IsHead h Backend rows) (sym head) (record {
    row = row;
    live = (p, stands);
    waits = subst (λ (it : Phase). IsTrue (phase_waits_in Backend it)) (sym phase) refl;
    own = refl;
    least = λ other live waits. subst (λ (r : Row). key_cmp row.key r.key ≢ Greater) (only other live) (not_above row.key);
  });
}

module _ {H : Type 0} where
  -- a row is that of the request at its place
  stands_as : (cells : List (Option (Cell H))) (p : ℕ) (s : Cell H) → StandsIn cells p s → StandsAt (rows_in cells) p s.row
  stands_as cells p s stands = slice_get-map (option_map (λ (it : Cell H). it.row)) cells p ∙ ap (option_map (option_map (λ (it : Cell H). it.row))) stands

  row_at : (cells : List (Option (Cell H))) (p : ℕ) (row : Row) → StandsAt (rows_in cells) p row → (s : Cell H) × StandsIn cells p s × (s.row ≡ row)
  row_at cells p row stands = by_cell (slice_get cells p) refl (sym (slice_get-map (option_map (λ (it : Cell H). it.row)) cells p) ∙ stands)
    where
      by_cell : (cell : Option (Option (Cell H))) → slice_get cells p ≡ cell → option_map (option_map (λ (it : Cell H). it.row)) cell ≡ Some (Some row)
          → (s : Cell H) × StandsIn cells p s × (s.row ≡ row)
      by_cell None at e = let f : None ≡ Some (Some row) = e in cc
      by_cell (Some None) at e = let f : Some None ≡ Some (Some row) = e in cc
      by_cell (Some (Some s)) at e = (s, at, same_Some s.row row (same_Some (Some s.row) (Some row) e))

  -- the first request that is put at a place is the only one
  pub one_stands : (empty now : List (Option (Cell H))) (n p : ℕ) (cell : Cell H) → empty ≡ replicate n None → slice_get empty p ≡ Some None
      → now ≡ set empty p (Some cell)
      → StandsAt (rows_in now) p cell.row × ((other : Row) → IsRow (rows_in now) other → cell.row ≡ other)
  one_stands empty now n p cell none free put =
      (stands_as now p cell (put_stands empty now p cell free put), λ other live. alone other live.0 (row_at now live.0 other live.1))
    where
      alone : (other : Row) (q : ℕ) → (s : Cell H) × StandsIn now q s × (s.row ≡ other) → cell.row ≡ other
      alone other q it =
          elim (get-set_cases empty p q None (Some cell) (Some it.0) free (subst (λ (l : List (Option (Cell H))). StandsIn l q it.0) put it.1)) [
            | inl same ↦ ap (λ (s : Cell H). s.row) (same_Some cell it.0 same.1) ∙ it.2
            | inr older ↦ absurd (none_in_empty n q it.0 (subst (λ (l : List (Option (Cell H))). StandsIn l q it.0) none older.1))
          ]
