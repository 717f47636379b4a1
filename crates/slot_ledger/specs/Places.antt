-- The places of a ledger.
use Rattle.std.specs.Prelude.{◌≡◌, ℕ, ◌+◌, ◌≤◌, List, Option, None, Some, length, count_by, is_some, slice_get, Contains}
use Rattle.slot_ledger.specs.declared.places.Cell.{Cell}
use Rattle.slot_ledger.specs.Cells.{StandsIn, HasTicketAt}
use Rattle.slot_ledger.specs.Tickets.{Indexed}

-- the free places are the places without a request, each once; the index has the ticket of each
-- request with its place, and no two requests have the same ticket
pub record PlacesAreKept {H : Type 0} (cells : List (Option (Cell H))) (vacant : List ℕ) (capacity : ℕ) (index : Indexed) : Type 0 where
  pub free : (at place : ℕ) → slice_get vacant at ≡ Some place → slice_get cells place ≡ Some None
  pub once : (at other place : ℕ) → slice_get vacant at ≡ Some place → slice_get vacant other ≡ Some place → at ≡ other
  pub all : length vacant + count_by is_some cells ≡ length cells
  pub room : length cells ≤ capacity
  pub indexed : (ticket place : ℕ) → Contains index.pairs (ticket, place) → HasTicketAt ticket cells place
  pub complete : (place : ℕ) (cell : Cell H) → StandsIn cells place cell → Contains index.pairs (cell.row.key.ticket, place)
  pub own : (place other : ℕ) (cell its : Cell H) → StandsIn cells place cell → StandsIn cells other its → cell.row.key.ticket ≡ its.row.key.ticket
      → place ≡ other
  pub counted : length index.pairs ≡ count_by is_some cells
  pub index_room : length cells ≤ index.room
