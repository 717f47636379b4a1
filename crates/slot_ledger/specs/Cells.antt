-- Places with live requests.
use Rattle.std.specs.Prelude.{◌≡◌, ◌≢◌, ℕ, ◌+◌, ◌^◌, ◌<◌, List, Option, None, Some, option_map, map, slice_get, slice_set, slice_index_or}
use Rattle.log_entries.specs.declared.queue.Queue.{Queue}
use Rattle.log_entries.specs.declared.row.Phase.{Phase}
use Rattle.log_entries.specs.declared.row.Phase.TheVariants.{Loose, Waiting}
use Rattle.log_entries.specs.Rows.{Rows}
use Rattle.slot_ledger.specs.declared.places.Cell.{Cell}

module _ {H : Type 0} where
  -- the rows of the live requests
  abbrev pub rows_in : List (Option (Cell H)) → Rows
  rows_in cells = map (option_map (λ cell. cell.row)) cells

  -- a live request stands at a place
  abbrev pub StandsIn : List (Option (Cell H)) → ℕ → Cell H → Type 0
  StandsIn cells place cell = slice_get cells place ≡ Some (Some cell)

  -- some request stands at a place
  abbrev pub HasRow : List (Option (Cell H)) → ℕ → Type 0
  HasRow cells place = (cell : Cell H) × StandsIn cells place cell

  -- some request with a node stands at a place
  abbrev pub HasNode : List (Option (Cell H)) → ℕ → Type 0
  HasNode cells place = (cell : Cell H) × (node : H) × StandsIn cells place cell × (cell.node ≡ Some node)

  -- the request at a place has failed less often than can be counted
  abbrev pub HasCountable : List (Option (Cell H)) → ℕ → Type 0
  HasCountable cells place = (cell : Cell H) × StandsIn cells place cell × (cell.row.failures + 1 < 2 ^ 32)

  -- the request of a ticket stands at a place
  abbrev pub HasTicketAt : ℕ → List (Option (Cell H)) → ℕ → Type 0
  HasTicketAt ticket cells place = (cell : Cell H) × StandsIn cells place cell × (cell.row.key.ticket ≡ ticket)

  -- no request has the ticket
  abbrev pub HasNoTicket : ℕ → List (Option (Cell H)) → Type 0
  HasNoTicket ticket cells = (place : ℕ) (cell : Cell H) → StandsIn cells place cell → cell.row.key.ticket ≢ ticket

  -- every ticket is below this one
  abbrev pub AreBelow : ℕ → List (Option (Cell H)) → Type 0
  AreBelow ticket cells = (place : ℕ) (cell : Cell H) → StandsIn cells place cell → cell.row.key.ticket < ticket

  -- the cells with the request at a place changed
  abbrev pub with_cell : (Cell H → Cell H) → List (Option (Cell H)) → ℕ → List (Option (Cell H))
  with_cell change cells place = slice_set cells place (option_map change (slice_index_or cells place None))

  -- the request at a place is in this phase
  abbrev pub with_phase : Phase → List (Option (Cell H)) → ℕ → List (Option (Cell H))
  with_phase phase = with_cell (λ cell. record { row = record cell.row { phase = phase }; node = cell.node })

  -- one more connection failed for the request at a place
  abbrev pub with_failure : List (Option (Cell H)) → ℕ → List (Option (Cell H))
  with_failure = with_cell (λ cell. record { row = record cell.row { failures = cell.row.failures + 1 }; node = cell.node })

  -- the request at a place has no pin
  abbrev pub unpinned : List (Option (Cell H)) → ℕ → List (Option (Cell H))
  unpinned = with_cell (λ cell. record { row = record cell.row { pin = None }; node = cell.node })

  -- the request at a place waits, and its node is handed out
  abbrev pub waiting : Queue → ℕ → List (Option (Cell H)) → ℕ → List (Option (Cell H))
  waiting queue since = with_cell (λ cell. record { row = record cell.row { phase = Waiting queue since }; node = None })

  -- the request at a place has no phase, and has its node
  abbrev pub loosened : H → List (Option (Cell H)) → ℕ → List (Option (Cell H))
  loosened node = with_cell (λ cell. record { row = record cell.row { phase = Loose }; node = Some node })
