-- The state that a log leaves.
use Rattle.std.specs.Prelude.{ℕ, ◌+◌, ◌-◌, ◌==◌, Bool, true, List, [], ◌∷◌, Option, None, Some, length, map, replicate, slice_get, slice_set, if◌then◌else◌}
use Rattle.std.specs.Option.{option_map_or}
use Rattle.due_key.specs.declared.key.Key.{Key}
use Rattle.log_entries.specs.declared.allowance.Allowance.{Allowance}
use Rattle.log_entries.specs.declared.allowance.Intake.{Intake}
use Rattle.log_entries.specs.declared.allowance.Intake.TheVariants.{Open}
use Rattle.log_entries.specs.declared.entry.Arrival.{Arrival}
use Rattle.log_entries.specs.declared.entry.Entry.{Entry}
use Rattle.log_entries.specs.declared.entry.Entry.TheVariants.{Arrive, Done, Fail, Abort, Tick, Check, Limit, Direct}
use Rattle.log_entries.specs.declared.entry.Entry.TheVariants.{Joined, Granted, Moved, Freed, Retried, Left, Health, Ended}
use Rattle.log_entries.specs.declared.queue.Queue.{Queue}
use Rattle.log_entries.specs.declared.queue.Queue.TheVariants.{Backend, Server}
use Rattle.log_entries.specs.declared.row.Phase.TheVariants.{Loose, Waiting, Serving, Told}
use Rattle.log_entries.specs.declared.row.Row.{Row}
use Rattle.log_entries.specs.declared.setup.ServerSet.{ServerSet}
use Rattle.log_entries.specs.declared.setup.Setup.{Setup}
use Rattle.log_entries.specs.Health.{ups_of, with_result}
use Rattle.log_entries.specs.Retries.{failed}
use Rattle.log_entries.specs.Rows.{Rows, changed, in_phase, in_backend_since, gone, pin_of, served}
use Rattle.log_entries.specs.Scenes.{Scene}

-- the live requests, each server's check results, each server's present limit, the moment of the
-- last event, the last ticket that was given, and the server that balancing picked last
pub record State : Type 0 where
  pub rows : Rows
  pub results : List (List Bool)
  pub limits : List Allowance
  pub moment : ℕ
  pub ticket : ℕ
  pub cursor : ℕ

-- at first each server is open with the limit of its setup
abbrev pub opening_limits : List ServerSet → List Allowance
opening_limits servers = map (λ server. record { limit = Open server.limit; served = 0 }) servers

-- the first state: no request, no check and no event yet; the last server counts as picked
abbrev pub opening_state : Setup → State
opening_state setup = record {
  rows = replicate setup.places None;
  results = replicate (length setup.servers) [];
  limits = opening_limits setup.servers;
  moment = 0;
  ticket = 0;
  cursor = length setup.servers - 1;
}

-- the part of a state that a decision depends on
abbrev pub scene : Setup → State → Scene
scene setup state = record {
  servers = setup.servers;
  limits = state.limits;
  ups = ups_of setup.servers state.results;
  rows = state.rows;
}

-- the key of an arrival
abbrev pub key_of : Arrival → Key
key_of arrival = record { class = arrival.class; due = arrival.due; ticket = arrival.ticket }

-- the row of an arrival, before it waits or is served
abbrev pub arrived : Arrival → Row
arrived arrival = record { key = key_of arrival; pin = arrival.pin; failures = 0; phase = Loose }

-- the cursor after a request with this pin was put on a server: a pin doesn't move it
abbrev pub cursor_after_placing : ℕ → Option ℕ → ℕ → ℕ
cursor_after_placing server None cursor = server
cursor_after_placing server (Some pin) cursor = if pin == server then cursor else server

-- the cursor after a ticket joined a queue
abbrev pub cursor_after_joining : Queue → Option ℕ → ℕ → ℕ
cursor_after_joining Backend pin cursor = cursor
cursor_after_joining (Server server) pin cursor = cursor_after_placing server pin cursor

-- the cursor after a server took a request from a queue: a server of weight 0 doesn't move it
abbrev pub cursor_after_granting : Setup → ℕ → ℕ → ℕ
cursor_after_granting setup server cursor = if option_map_or (λ it. it.weight == 0) (slice_get setup.servers server) true then cursor else server

-- a server's limit is set, and the number of requests that it serves now is kept with it
abbrev pub with_limit : ℕ → Intake → State → List Allowance
with_limit server limit state = slice_set state.limits server (record { limit = limit; served = served server state.rows })

-- the state after an entry: an arrival's row is at its place, and its ticket is the last one; a
-- failure is counted when its event begins, and a check's result is added to its server's
abbrev pub after : Setup → State → Entry → State
after setup state (Arrive moment arrival) = record {
  rows = slice_set state.rows arrival.place (Some (arrived arrival));
  results = state.results;
  limits = state.limits;
  moment = moment;
  ticket = arrival.ticket;
  cursor = state.cursor;
}
after setup state (Done moment ticket) = record state { moment = moment }
after setup state (Fail moment ticket) = record state { rows = changed ticket (failed setup) state.rows; moment = moment }
after setup state (Abort moment ticket) = record state { moment = moment }
after setup state (Tick moment) = record state { moment = moment }
after setup state (Check moment server ok) = record state { results = with_result server ok state.results; moment = moment }
after setup state (Limit moment server limit) = record state { limits = with_limit server limit state; moment = moment }
after setup state (Direct ticket server) = record state {
  rows = changed ticket (in_phase (Serving server)) state.rows;
  cursor = cursor_after_placing server (pin_of ticket state.rows) state.cursor;
}
after setup state (Joined ticket queue) = record state {
  rows = changed ticket (in_phase (Waiting queue state.moment)) state.rows;
  cursor = cursor_after_joining queue (pin_of ticket state.rows) state.cursor;
}
after setup state (Granted ticket queue server) = record state {
  rows = changed ticket (in_phase (Serving server)) state.rows;
  cursor = cursor_after_granting setup server state.cursor;
}
after setup state (Moved ticket server) = record state { rows = changed ticket (in_backend_since state.moment) state.rows }
after setup state (Retried ticket server failures) = state
after setup state (Health server up) = state
after setup state (Freed ticket server) = record state { rows = changed ticket (in_phase Loose) state.rows }
after setup state (Left ticket cause) = record state { rows = changed ticket (in_phase (Told cause)) state.rows }
after setup state (Ended ticket) = record state { rows = changed ticket gone state.rows }

-- the state after all entries of a log
abbrev pub after_all : Setup → State → List Entry → State
after_all setup state [] = state
after_all setup state (entry ∷ entries) = after_all setup (after setup state entry) entries

-- a point of a log: its setup, the state after the entries before it, and the number of those
pub record Point : Type 0 where
  pub setup : Setup
  pub state : State
  pub used : ℕ

abbrev pub point_of : Setup → State → ℕ → Point
point_of setup state used = record { setup = setup; state = state; used = used }

-- the point after an entry, and after entries
abbrev pub next_point : Point → Entry → Point
next_point point entry = point_of point.setup (after point.setup point.state entry) (point.used + 1)

abbrev pub point_after : Point → List Entry → Point
point_after point entries = point_of point.setup (after_all point.setup point.state entries) (point.used + length entries)
