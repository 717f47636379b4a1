-- What holds after every event of a dispatcher.
use Rattle.std.specs.Prelude.{◌≡◌, ℕ, ◌+◌, ◌<◌, ◌≤◌, max, Option, None, Some, IfSome, ◌==◌, Bool, true, false, List, IsTrue, count_by, slice_get, if◌then◌else◌}
use Rattle.std.specs.Option.{option_map_or}
use Rattle.log_entries.specs.declared.allowance.Allowance.{Allowance}
use Rattle.log_entries.specs.declared.allowance.Intake.{Intake}
use Rattle.log_entries.specs.declared.allowance.Intake.TheVariants.{Open, Closed}
use Rattle.log_entries.specs.declared.entry.Entry.{Entry}
use Rattle.log_entries.specs.declared.entry.Entry.TheVariants.{Arrive, Ended}
use Rattle.log_entries.specs.declared.row.Phase.{Phase}
use Rattle.log_entries.specs.declared.row.Phase.TheVariants.{Loose, Waiting, Serving, Told}
use Rattle.log_entries.specs.declared.row.Row.{Row}
use Rattle.log_entries.specs.Histories.{History, state_of}
use Rattle.log_entries.specs.Grants.{IsSettled}
use Rattle.log_entries.specs.Rows.{IsRow, served, rows_of}
use Rattle.log_entries.specs.States.{State, scene}

-- the most requests that a server with this limit may serve, where it served this many when the
-- limit was set: none of those is stopped, and a closed server takes no more; without a limit there
-- is no bound
abbrev pub bound_from : Intake → ℕ → Option ℕ
bound_from (Open limit) count = if limit == 0 then None else Some (max limit count)
bound_from Closed count = Some count

abbrev pub bound_by : Allowance → Option ℕ
bound_by it = bound_from it.limit it.served

abbrev pub bound_of : State → ℕ → Option ℕ
bound_of state server = option_map_or bound_by (slice_get state.limits server) None

-- no server serves more than its bound
abbrev pub KeepsLimits : State → Type 0
KeepsLimits state = (server : ℕ) → IfSome (bound_of state server) (λ bound. served server state.rows ≤ bound)

abbrev pub is_arrival_of : ℕ → Entry → Bool
is_arrival_of ticket (Arrive moment arrival) = arrival.ticket == ticket
is_arrival_of ticket entry = false

abbrev pub is_end_of : ℕ → Entry → Bool
is_end_of ticket (Ended other) = other == ticket
is_end_of ticket entry = false

-- the number of times that a ticket arrives, and that it ends, in a log
abbrev pub arrivals_of : ℕ → List Entry → ℕ
arrivals_of ticket log = count_by (is_arrival_of ticket) log

abbrev pub ends_of : ℕ → List Entry → ℕ
ends_of ticket log = count_by (is_end_of ticket) log

-- a row waits in a queue, has a slot of a server, or is told that it isn't served
abbrev pub is_placed : Phase → Bool
is_placed Loose = false
is_placed (Waiting queue since) = true
is_placed (Serving server) = true
is_placed (Told cause) = true

-- a ticket was given after a first one, and is the last one or was given before it
pub record IsGivenBetween (first last ticket : ℕ) : Type 0 where
  pub after : first < ticket
  pub up_to : ticket ≤ last

-- a ticket that was given in the window arrived there once, and none but such a ticket arrived; of its rows, those at the
-- window's base and those that came with an arrival, each is there still or has ended; and it has one row at most, and
-- only where it was given
pub record IsInOnePlace (history : History) (ticket : ℕ) : Type 0 where
  pub arrives_once : IsGivenBetween history.base.ticket (state_of history).ticket ticket → arrivals_of ticket history.log ≡ 1
  pub arrives_given : 0 < arrivals_of ticket history.log → IsGivenBetween history.base.ticket (state_of history).ticket ticket
  pub until_its_end : rows_of ticket (state_of history).rows + ends_of ticket history.log ≡ rows_of ticket history.base.rows + arrivals_of ticket history.log
  pub one_row : rows_of ticket (state_of history).rows ≤ 1
  pub row_given : 0 < rows_of ticket (state_of history).rows → IsGivenBetween 0 (state_of history).ticket ticket

-- the first three parts of the dispatch theorem: limits are kept, every request is in exactly one
-- place, and no server has a free slot while a request that may take it waits
pub record IsDispatched (history : History) : Type 0 where
  pub limits : KeepsLimits (state_of history)
  pub one_place : (ticket : ℕ) → IsInOnePlace history ticket
  pub placed : (row : Row) → IsRow (state_of history).rows row → IsTrue (is_placed row.phase)
  pub settled : IsSettled (scene history.setup (state_of history))
