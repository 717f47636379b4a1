-- The meaning of a pass between any two calls: the log and the board together.
use Rattle.std.specs.Prelude.{◌≡◌, ℕ, ◌≤◌, IfSome, Contains}
use Rattle.log_entries.specs.Dispatch.{bound_of}
use Rattle.log_entries.specs.Histories.{History, state_of}
use Rattle.grant_board.specs.Places.{HasKeeper, HasRelay}
use Rattle.grant_board.specs.Rule.{BoardState, of_relays, Orderly}
use Rattle.grant_board.specs.Views.{Grant, Terms, KeeperPart, RelayView, count_at, count_of}
use Rattle.locked_book.specs.Books.{IsBook}
use Rattle.locked_book.specs.Outstanding.{outstanding}

-- the number of passes of a server that all seats have together
abbrev pub passes_of : ℕ → BoardState → ℕ
passes_of server s = of_relays (λ r. count_of server r.passes) s.views

-- a pass of the seat j's i-th part is true
pub record IsTruePass (history : History) (s : BoardState) (j i : ℕ) (r : RelayView) (pass : Grant) : Type 0 where
  -- the log gave the request at its place this verdict, and the request isn't over
  pub given : Contains (outstanding (state_of history).rows) pass
  -- the seat has it once, and no other seat has one of its place
  pub once : count_at pass.place r.passes ≡ 1
  pub alone : (m n : ℕ) (other : RelayView) → HasRelay s m n other → ¬ ((m ≡ j) × (n ≡ i)) → count_at pass.place other.passes ≡ 0

-- each pass of each seat is true, where the board keeps its rule and the log is that of its keeper's book
abbrev pub PassesAreTrue : Type 0
PassesAreTrue = (terms : Terms) (s : BoardState) (k : KeeperPart) (history : History) → Orderly terms s → HasKeeper s k → IsBook history k.view
    → (j i : ℕ) (r : RelayView) (pass : Grant) → HasRelay s j i r → Contains r.passes pass → IsTruePass history s j i r pass

-- all seats together have no more passes of a server than the log's bound of it, where it has one
abbrev pub PassesKeepBounds : Type 0
PassesKeepBounds = (terms : Terms) (s : BoardState) (k : KeeperPart) (history : History) → Orderly terms s → HasKeeper s k → IsBook history k.view
    → (server : ℕ) → IfSome (bound_of (state_of history) server) (λ bound. passes_of server s ≤ bound)
