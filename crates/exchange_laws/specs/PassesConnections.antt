-- The meaning of a connection between any two calls: the log, the board and an exchange together.
use Rattle.std.specs.Prelude.{◌≡◌, ℕ, Some, List, Contains}
use Rattle.log_entries.specs.Histories.{History, state_of}
use Rattle.grant_board.specs.Places.{HasKeeper, HasRelay}
use Rattle.grant_board.specs.Rule.{BoardState, Orderly}
use Rattle.grant_board.specs.Views.{Grant, Terms, KeeperPart, RelayView}
use Rattle.exchange_events.specs.Passes.{held_by}
use Rattle.exchange_events.specs.declared.exchange.Exchange.{Exchange}
use Rattle.locked_book.specs.Books.{IsBook}
use Rattle.locked_book.specs.Outstanding.{outstanding}
use Rattle.exchange_seated.specs.Seats.{server_of}
use Rattle.base_verdict.specs.declared.Verdict.TheVariants.{Serve}

-- the holder of these passes may have a connection to this server: by one of them the log gave a
-- slot of the server to a request that isn't over
pub record MayConnect (history : History) (passes : List Grant) (server : ℕ) : Type 0 where
  pub pass : Grant
  pub held : Contains passes pass
  pub given : Contains (outstanding (state_of history).rows) pass
  pub serves : pass.verdict ≡ Serve server

-- this holds for each exchange whose passes are those of a seat, and for the server of the pass
-- that it holds: a loop connects to no other
abbrev pub ConnectionsAreTrue : Type 0
ConnectionsAreTrue = (terms : Terms) (s : BoardState) (k : KeeperPart) (history : History) → Orderly terms s → HasKeeper s k → IsBook history k.view
    → (j i : ℕ) (r : RelayView) (x : Exchange) (server : ℕ) → HasRelay s j i r → r.passes ≡ held_by x → server_of (held_by x) ≡ Some server
    → MayConnect history (held_by x) server
