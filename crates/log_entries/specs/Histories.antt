-- Dispatchers as contracts see them: the setup, the state in which the present window began, and the log since.
use Rattle.std.specs.Prelude.{◌≡◌, ◌⊎◌, ℕ, max, Bool, true, false, List, [], Option, None, Some, length}
use Rattle.log_entries.specs.declared.entry.Entry.{Entry}
use Rattle.log_entries.specs.declared.entry.Entry.TheVariants.{Arrive, Done, Fail, Abort, Tick, Check, Limit}
use Rattle.log_entries.specs.declared.refusal.Refusal.{Refusal}
use Rattle.log_entries.specs.declared.refusal.Refusal.TheVariants.{NoMemory}
use Rattle.log_entries.specs.declared.row.Row.{Row}
use Rattle.log_entries.specs.declared.setup.Setup.{Setup}
use Rattle.log_entries.specs.Health.{shortened_all}
use Rattle.log_entries.specs.Judgement.{HasExpired}
use Rattle.log_entries.specs.Refusals.{arrival_refusal, done_refusal, failure_refusal, abort_refusal, tick_refusal, check_refusal, limit_refusal}
use Rattle.log_entries.specs.Rows.{IsRow}
use Rattle.log_entries.specs.States.{State, opening_state, after_all, Point, point_of}

-- a dispatcher's setup, the state in which its present window began, and the entries since
pub record History : Type 0 where
  pub setup : Setup
  pub base : State
  pub log : List Entry

-- the first window, which begins without a request
abbrev pub first_window : Setup → List Entry → History
first_window setup log = record { setup = setup; base = opening_state setup; log = log }

-- the state at the end of the log
abbrev pub state_of : History → State
state_of history = after_all history.setup history.base history.log

-- the point where the window begins, and the point at its end
abbrev pub start_of : History → Point
start_of history = point_of history.setup history.base 0

abbrev pub end_of : History → Point
end_of history = point_of history.setup (state_of history) (length history.log)

-- the base of the next window: the state at the end of this one, with each server's check results shortened
abbrev pub rolled : Setup → State → State
rolled setup state = record state { results = shortened_all setup.servers state.results }

abbrev pub next_window : History → History
next_window history = record { setup = history.setup; base = rolled history.setup (state_of history); log = [] }

-- an event's effective moment: the later of its own moment and the last event's
abbrev pub effective : History → ℕ → ℕ
effective history moment = max (state_of history).moment moment

-- at this moment some request has waited as long as requests may
abbrev pub SomeExpires : History → ℕ → Type 0
SomeExpires history moment = (row : Row) × IsRow (state_of history).rows row × HasExpired history.setup (effective history moment) row.phase

-- why an arrival with this pin, the return of a ticket's slot, a ticket's failure or abort, a tick,
-- or a check or a new limit of a server is refused now, if it is
abbrev pub refuses_arrival : History → Option ℕ → Option Refusal
refuses_arrival history pin = arrival_refusal history.setup (state_of history) (length history.log) pin

abbrev pub refuses_done : History → ℕ → Option Refusal
refuses_done history ticket = done_refusal history.setup (state_of history) (length history.log) ticket

abbrev pub refuses_failure : History → ℕ → Option Refusal
refuses_failure history ticket = failure_refusal history.setup (state_of history) (length history.log) ticket

abbrev pub refuses_abort : History → ℕ → Option Refusal
refuses_abort history ticket = abort_refusal history.setup (state_of history) (length history.log) ticket

abbrev pub refuses_tick : History → Option Refusal
refuses_tick history = tick_refusal history.setup (length history.log)

abbrev pub refuses_check : History → ℕ → Option Refusal
refuses_check history server = check_refusal history.setup (length history.log) server

abbrev pub refuses_limit : History → ℕ → Option Refusal
refuses_limit history server = limit_refusal history.setup (length history.log) server

abbrev pub begins_event : Entry → Bool
begins_event (Arrive moment arrival) = true
begins_event (Done moment ticket) = true
begins_event (Fail moment ticket) = true
begins_event (Abort moment ticket) = true
begins_event (Tick moment) = true
begins_event (Check moment server ok) = true
begins_event (Limit moment server limit) = true
begins_event entry = false

-- why a call that allocates failed: it is refused, or no refusal applies and there was no memory
abbrev pub RefusedOrNoMemory : Option Refusal → Refusal → Type 0
RefusedOrNoMemory refused answer = (refused ≡ Some answer) ⊎ ((refused ≡ None) × (answer ≡ NoMemory))
