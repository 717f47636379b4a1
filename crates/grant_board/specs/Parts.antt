-- The invariants of the seats' types on their parts.
use Rattle.std.specs.Prelude.{◌≡◌, ℕ, ◌+◌, ◌<◌, ◌≤◌, length}
use Rattle.atomic_table.specs.Seated.{TableId}
use Rattle.grant_board.specs.Views.{Terms}
use Rattle.grant_board.specs.Ruled.{at_rest}
use Rattle.grant_board.specs.Plays.{Seated, keeper_seat, relay_seat, keeper_of, relay_of}

-- a table of a board with these terms: one word for each of this many places, and one for each server
pub record IsTableOf (terms : Terms) (board : TableId) (places : ℕ) : Type 0 where
  pub words : board.words ≡ terms.places + length terms.limits
  pub places_are : places ≡ terms.places
  pub some_places : 0 < terms.places
  pub few_places : terms.places ≤ 4096
  pub few_servers : length terms.limits ≤ 64

-- a seat that has only the keeper's part, between two calls, on a board of its terms
pub record IsKeeperSeat (board : TableId) (places : ℕ) (m : Seated) : Type 0 where
  pub me : m ≡ keeper_seat (at_rest (keeper_of m.0.keepers).view)
  pub table : IsTableOf (keeper_of m.0.keepers).view.terms board places

-- a seat that has only one relay's part, on a board of its terms
pub record IsRelaySeat (board : TableId) (places : ℕ) (m : Seated) : Type 0 where
  pub me : m ≡ relay_seat (relay_of m.0.relays)
  pub table : IsTableOf (relay_of m.0.relays).terms board places
