-- What a logged state keeps, and how that follows from its log.
use Rattle.std.specs.Prelude.{◌≡◌, ℕ, Bool, false, List, [], ◌∷◌, ◌++◌, Option, None, Some, length, map, slice_index_or}
use Rattle.due_key.specs.declared.key.Key.{Key}
use Rattle.log_entries.specs.declared.entry.Entry.{Entry}
use Rattle.log_entries.specs.declared.row.Phase.{Phase}
use Rattle.log_entries.specs.declared.row.Phase.TheVariants.{Loose, Waiting, Serving, Told}
use Rattle.log_entries.specs.declared.row.Row.{Row}
use Rattle.log_entries.specs.declared.setup.ServerSet.{ServerSet}
use Rattle.log_entries.specs.Health.{ups_of}
use Rattle.log_entries.specs.Histories.{History, state_of}
use Rattle.log_entries.specs.Logs.{Recorded}
use Rattle.log_entries.specs.Rows.{Rows}
use Rattle.log_entries.specs.Setups.{IsSound}
use Rattle.log_entries.specs.States.{State}
use Rattle.log_reading.specs.Grants.{joining_of}
use Rattle.slot_ledger.specs.declared.places.Cell.{Cell}
use Rattle.slot_ledger.specs.Ledgers.{Kept}
use Rattle.slot_ledger.specs.Cells.{rows_in, StandsIn}
use Rattle.queue_waits.specs.declared.waiters.Waiter.{Waiter}
use Rattle.queue_waits.specs.Waitlists.{Waitlist, Waiters}
use Rattle.dispatch_state.specs.declared.position.Position.{Position}
use Rattle.dispatch_state.specs.Histories.{IsJudged}
use Rattle.dispatch_state.specs.Turns.{WaitsSince, AreInTurn}

-- the content of a logged state: the live requests, the log, the requests that wait, and its position
pub record LoggedState (N : Type 0) : Type 0 where
  pub kept : Kept N
  pub log : Recorded
  pub waits : Waitlist
  pub position : Position

-- its history
abbrev pub history_of : {N : Type 0} → LoggedState N → History
history_of logged = record { setup = logged.kept.setup; base = logged.log.base; log = logged.log.entries }

-- a log with one more entry
abbrev pub noted : Recorded → Entry → Recorded
noted log entry = record log { entries = log.entries ++ entry ∷ [] }

-- a server is up by the results of its checks
abbrev pub is_up_at : List ServerSet → List (List Bool) → ℕ → Bool
is_up_at servers results server = slice_index_or (ups_of servers results) server false

-- a row that doesn't wait has the node that it will wait with, for its key and place
abbrev pub HasItsNode : {N : Type 0} → (N → Key × ℕ) → ℕ → Phase → Cell N → Type 0
HasItsNode {N} pair_of place (Waiting queue since) cell = Unit {0}
HasItsNode {N} pair_of place Loose cell = (node : N) × (cell.node ≡ Some node) × (pair_of node ≡ (cell.row.key, place))
HasItsNode {N} pair_of place (Serving server) cell = (node : N) × (cell.node ≡ Some node) × (pair_of node ≡ (cell.row.key, place))
HasItsNode {N} pair_of place (Told cause) cell = (node : N) × (cell.node ≡ Some node) × (pair_of node ≡ (cell.row.key, place))

-- how a row waits, if it does: in which queue, and at which position of the log it joined it
abbrev pub waiter_in : List Entry → Key → Phase → Option Waiter
waiter_in log key (Waiting queue since) = Some (record { key = key; queue = queue; joined = joining_of key.ticket queue log })
waiter_in log key Loose = None
waiter_in log key (Serving server) = None
waiter_in log key (Told cause) = None

abbrev pub waiter_of : List Entry → Option Row → Option Waiter
waiter_of log None = None
waiter_of log (Some row) = waiter_in log row.key row.phase

abbrev pub waiters_of : List Entry → Rows → Waiters
waiters_of log rows = map (waiter_of log) rows

-- the position of a state
abbrev pub position_of : State → Position
position_of state = record { cursor = state.cursor; last = state.moment; ticket = state.ticket }

-- each row that doesn't wait has its node
abbrev pub HaveNodes : {N : Type 0} → (N → Key × ℕ) → List (Option (Cell N)) → Type 0
HaveNodes {N} pair_of cells = (place : ℕ) (cell : Cell N) → StandsIn cells place cell → HasItsNode pair_of place cell.row.phase cell

-- the content of a logged state agrees with the state that its entries leave
pub record Holds {N : Type 0} (pair_of : N → Key × ℕ) (logged : LoggedState N) (entries : List Entry) (state : State) : Type 0 where
  pub rows : rows_in logged.kept.cells ≡ state.rows
  pub nodes : HaveNodes pair_of logged.kept.cells
  pub ups : logged.kept.ups ≡ ups_of logged.kept.setup.servers state.results
  pub limits : logged.kept.limits ≡ state.limits
  pub waiters : logged.waits.waiters ≡ waiters_of entries state.rows
  pub in_turn : AreInTurn (WaitsSince state.rows) state.moment logged.waits.order
  pub position : logged.position ≡ position_of state

-- a logged state agrees with the state that its log leaves, and each entry of its log may come where it stands
pub record IsLoggedState {N : Type 0} (pair_of : N → Key × ℕ) (logged : LoggedState N) : Type 0 where
  pub sound : IsSound logged.kept.setup
  pub judged : IsJudged (history_of logged)
  pub holds : Holds pair_of logged logged.log.entries (state_of (history_of logged))
  pub servers : logged.waits.servers ≡ length logged.kept.setup.servers
  pub log_room : logged.log.room ≡ logged.kept.setup.log
