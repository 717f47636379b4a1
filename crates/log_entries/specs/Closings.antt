-- The requests that a closed server takes: none.
use Rattle.std.specs.Prelude.{◌≡◌, ℕ, ◌==◌, ◌≤◌, Bool, false, All, List}
use Rattle.log_entries.specs.declared.allowance.Intake.TheVariants.{Closed}
use Rattle.log_entries.specs.declared.entry.Entry.{Entry}
use Rattle.log_entries.specs.declared.entry.Entry.TheVariants.{Limit, Direct, Joined, Granted}
use Rattle.log_entries.specs.declared.queue.Queue.TheVariants.{Server}
use Rattle.log_entries.specs.Histories.{History, state_of, end_of}
use Rattle.log_entries.specs.Judgement.{Stage, granting, AllMayCome, stage_after}
use Rattle.log_entries.specs.Legal.{IsLegal}
use Rattle.log_entries.specs.Rows.{served}
use Rattle.log_entries.specs.Scenes.{limit_of}
use Rattle.log_entries.specs.States.{scene, after_all, Point}

-- an entry gives a request a slot of the server, or a stay in its queue
abbrev pub is_given_at : ℕ → Entry → Bool
is_given_at server (Direct ticket taker) = taker == server
is_given_at server (Joined ticket (Server own)) = own == server
is_given_at server (Granted ticket queue taker) = taker == server
is_given_at server entry = false

-- an entry sets the server's limit
abbrev pub is_limit_of : ℕ → Entry → Bool
is_limit_of server (Limit moment other limit) = other == server
is_limit_of server entry = false

-- entries that may come while a server is closed and that don't set its limit: none gives a request
-- a slot of the server or a stay in its queue, and the server is still closed after them
pub record IsLeftAlone (server : ℕ) (point : Point) (entries : List Entry) : Type 0 where
  pub none : All (λ entry. is_given_at server entry ≡ false) entries
  pub still_closed : limit_of (scene point.setup (after_all point.setup point.state entries)) server ≡ Closed

abbrev pub ClosedTakeNobody : Type 0
ClosedTakeNobody = (server : ℕ) (point : Point) (stage : Stage) (entries : List Entry) → AllMayCome point stage entries
    → limit_of (scene point.setup point.state) server ≡ Closed → All (λ entry. is_limit_of server entry ≡ false) entries
    → IsLeftAlone server point entries

-- after any legal history a closed server serves no more than when it was closed
abbrev pub ClosedServeNoMore : Type 0
ClosedServeNoMore = (server : ℕ) (history : History) (entries : List Entry) → IsLegal history
    → AllMayCome (end_of history) (stage_after granting history.log) entries
    → limit_of (scene history.setup (state_of history)) server ≡ Closed → All (λ entry. is_limit_of server entry ≡ false) entries
    → served server (after_all history.setup (state_of history) entries).rows ≤ served server (state_of history).rows
