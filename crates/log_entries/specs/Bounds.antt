-- The bounds of a log's numbers under its setup.
use Rattle.std.specs.Prelude.{◌≡◌, ℕ, ◌<◌, ◌≤◌, ◌^◌, ℤ, length}
use Rattle.due_key.specs.Range.{IsBetween}
use Rattle.due_key.specs.declared.class.TheConstants.{LOWEST_CLASS, HIGHEST_CLASS}
use Rattle.log_entries.specs.declared.queue.Queue.TheVariants.{Backend, Server}
use Rattle.log_entries.specs.declared.row.Phase.{Phase}
use Rattle.log_entries.specs.declared.row.Phase.TheVariants.{Loose, Waiting, Serving, Told}
use Rattle.log_entries.specs.declared.row.Row.{Row}
use Rattle.log_entries.specs.Dispatch.{arrivals_of}
use Rattle.log_entries.specs.Histories.{History, state_of}
use Rattle.log_entries.specs.Judgement.{IsDueFrom}
use Rattle.log_entries.specs.Rows.{IsRow}

-- a phase that names a server, whose slot or queue it is about, names one of the first `servers`
abbrev pub IsAtOneOf : ℕ → Phase → Type 0
IsAtOneOf servers (Serving server) = server < servers
IsAtOneOf servers (Waiting (Server server) since) = server < servers
IsAtOneOf servers (Waiting Backend since) = Unit {0}
IsAtOneOf servers Loose = Unit {0}
IsAtOneOf servers (Told cause) = Unit {0}

-- a due date that a request may have at this moment: the sum of an arrival's moment up to now and an offset
abbrev pub IsDueBy : ℕ → ℤ → Type 0
IsDueBy moment due = (arrival : ℕ) × (arrival ≤ moment) × IsDueFrom arrival due

-- a phase that waits does so since a moment up to this one
abbrev pub IsSinceBy : ℕ → Phase → Type 0
IsSinceBy moment (Waiting queue since) = since ≤ moment
IsSinceBy moment Loose = Unit {0}
IsSinceBy moment (Serving server) = Unit {0}
IsSinceBy moment (Told cause) = Unit {0}

-- a row that may stand at this moment: its class is in range, its due date belongs to an arrival up
-- to now, and where it waits it began to wait by now
pub record IsRowBy (moment : ℕ) (row : Row) : Type 0 where
  pub class : IsBetween LOWEST_CLASS HIGHEST_CLASS row.key.class
  pub due : IsDueBy moment row.key.due
  pub since : IsSinceBy moment row.phase

-- there are as many places as the setup says; tickets of arrivals and rows are below 2 ^ 40; the
-- last moment is below 2 ^ 62, and each row may stand at it; each row at a server is at one of the
-- setup's servers, and so is the cursor of balancing
pub record IsInBounds (history : History) : Type 0 where
  pub places : length (state_of history).rows ≡ history.setup.places
  pub ticket : (state_of history).ticket < 2 ^ 40
  pub rows : (row : Row) → IsRow (state_of history).rows row → row.key.ticket ≤ (state_of history).ticket
  pub arrivals : (ticket : ℕ) → 2 ^ 40 ≤ ticket → arrivals_of ticket history.log ≡ 0
  pub moment : (state_of history).moment < 2 ^ 62
  pub timed_rows : (row : Row) → IsRow (state_of history).rows row → IsRowBy (state_of history).moment row
  pub servers : (row : Row) → IsRow (state_of history).rows row → IsAtOneOf (length history.setup.servers) row.phase
  pub cursor : 0 < length history.setup.servers → (state_of history).cursor < length history.setup.servers
