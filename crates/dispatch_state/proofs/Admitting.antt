-- A row at a free place, with the node that it will wait with, or gone again.
use Rattle.std.proofs.Common.{◌≡◌, ℕ, List, Option, None, Some, slice_get, ap, sym, ◌∙◌}
use Rattle.std.proofs.Math.ListN.{set}
use Rattle.std.proofs.lemmas.List.{set-set}
use Rattle.log_entries.specs.declared.row.Phase.{Phase}
use Rattle.log_entries.specs.declared.row.Phase.TheVariants.{Loose}
use Rattle.log_entries.specs.declared.row.Row.{Row}
use Rattle.base_lists.proofs.Places.{get-set_same, set_read}
use Rattle.slot_ledger.specs.declared.places.Cell.{Cell}
use Rattle.slot_ledger.specs.Ledgers.{Kept, with_cells}
use Rattle.slot_ledger.specs.Cells.{StandsIn, HasRow, loosened}
use Rattle.slot_ledger.proofs.Standing.{with_cell_at}

module _ {N : Type 0} where
  pub admitted_stands : (old mid : Kept N) (place : ℕ) (row : Row) → slice_get old.cells place ≡ Some None
      → mid ≡ with_cells old (set old.cells place (Some (record { row = row; node = None }))) → HasRow mid.cells place
  admitted_stands old mid place row vacant admitted = (
    record { row = row; node = None },
    ap (λ (k : Kept N). slice_get k.cells place) admitted
        ∙ get-set_same old.cells place None (Some (record { row = row; node = None })) vacant,
  )

  pub admitted_node : (old mid last : Kept N) (place : ℕ) (row : Row) (node : N) → slice_get old.cells place ≡ Some None → row.phase ≡ Loose
      → mid ≡ with_cells old (set old.cells place (Some (record { row = row; node = None }))) → last ≡ with_cells mid (loosened node mid.cells place)
      → last ≡ with_cells old (set old.cells place (Some (record { row = row; node = Some node })))
  admitted_node old mid last place row node vacant loose admitted then =
      let bare : Cell N = record { row = row; node = None } in
      let whole : Cell N = record { row = row; node = Some node } in
      let there : StandsIn (set old.cells place (Some bare)) place bare = get-set_same old.cells place None (Some bare) vacant in
      let written = with_cell_at (λ (x : Cell N). record { row = record x.row { phase = Loose }; node = Some node })
      (set old.cells place (Some bare)) place bare there in
      then
      ∙ ap (λ (k : Kept N). with_cells k (loosened node k.cells place)) admitted
      ∙ ap (λ (l : List (Option (Cell N))). with_cells old l)
      (written ∙ ap (λ (p : Phase). set (set old.cells place (Some bare)) place (Some (record { row = record row { phase = p }; node = Some node })))
      (sym loose) ∙ set-set old.cells place (Some bare) (Some whole))

  pub admitted_back : (old mid last : Kept N) (place : ℕ) (row : Row) → slice_get old.cells place ≡ Some None
      → mid ≡ with_cells old (set old.cells place (Some (record { row = row; node = None }))) → last ≡ with_cells mid (set mid.cells place None)
      → last ≡ old
  admitted_back old mid last place row vacant admitted then =
      then
      ∙ ap (λ (k : Kept N). with_cells k (set k.cells place None)) admitted
      ∙ ap (λ (l : List (Option (Cell N))). with_cells old l) (set-set old.cells place (Some (record { row = row; node = None })) None
      ∙ set_read old.cells place None vacant)
