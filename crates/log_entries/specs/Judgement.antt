-- Legal logs, judged entry by entry.
use Rattle.std.specs.Prelude.{◌≡◌, ◌≢◌, ℕ, ◌+◌, ◌<◌, ◌≤◌, ◌^◌, ℤ, pos, ◌+ℤ◌, Bool, true, false, IsTrue, List, [], ◌∷◌, Option, None, Some, slice_get}
use Rattle.std.specs.Option.{option_map_or}
use Rattle.due_key.specs.Range.{IsBetween}
use Rattle.due_key.specs.declared.class.TheConstants.{LOWEST_CLASS, HIGHEST_CLASS}
use Rattle.due_key.specs.declared.offset.TheConstants.{LOWEST_OFFSET, HIGHEST_OFFSET}
use Rattle.log_entries.specs.declared.allowance.Intake.{Intake}
use Rattle.log_entries.specs.declared.allowance.Intake.TheVariants.{Open, Closed}
use Rattle.log_entries.specs.declared.entry.Arrival.{Arrival}
use Rattle.log_entries.specs.declared.entry.Entry.{Entry}
use Rattle.log_entries.specs.declared.entry.Entry.TheVariants.{Arrive, Done, Fail, Abort, Tick, Check, Limit, Direct}
use Rattle.log_entries.specs.declared.entry.Entry.TheVariants.{Joined, Granted, Moved, Freed, Retried, Left, Health, Ended}
use Rattle.base_verdict.specs.declared.cause.Cause.TheVariants.{Aborted, Timeout, Retries, NoServer}
use Rattle.log_entries.specs.declared.queue.Queue.{Queue}
use Rattle.log_entries.specs.declared.queue.Queue.TheVariants.{Server}
use Rattle.log_entries.specs.declared.row.Phase.{Phase}
use Rattle.log_entries.specs.declared.row.Phase.TheVariants.{Loose, Waiting, Serving, Told}
use Rattle.log_entries.specs.declared.row.Row.{Row}
use Rattle.log_entries.specs.declared.setup.Setup.{Setup}
use Rattle.log_entries.specs.declared.refusal.Refusal.{Refusal}
use Rattle.log_entries.specs.Health.{is_up_by, results_of, without_last}
use Rattle.log_entries.specs.Refusals.{arrival_refusal, done_refusal, failure_refusal, abort_refusal, tick_refusal, check_refusal, limit_refusal, is_waiting}
use Rattle.log_entries.specs.Retries.{are_spent, are_redispatched, are_retried}
use Rattle.log_entries.specs.Rows.{Rows, IsRow, IsVacant, IsEmptyQueue, phase_is_served_by, phase_is_told, phase_waits_in, pin_of, failures_of}
use Rattle.log_entries.specs.States.{State, scene, after_all, Point, next_point}
use Rattle.log_entries.specs.Scenes.{Scene, is_up}
use Rattle.log_entries.specs.Placement.{IsDirect, IsJoining, IsTurnedAway}
use Rattle.log_entries.specs.Grants.{IsLeastOf, IsSettled, IsLawfulGrant}

-- a ticket has a row, and the row's phase passes a test
pub record IsInPhase (test : Phase → Bool) (rows : Rows) (ticket : ℕ) : Type 0 where
  pub row : Row
  pub live : IsRow rows row
  pub named : row.key.ticket ≡ ticket
  pub phase : IsTrue (test row.phase)

-- a ticket has a slot of this server, or is told that it isn't served
abbrev pub HasSlot : Rows → ℕ → ℕ → Type 0
HasSlot rows ticket server = IsInPhase (phase_is_served_by server) rows ticket

abbrev pub IsTold : Rows → ℕ → Type 0
IsTold rows ticket = IsInPhase phase_is_told rows ticket

-- a due date that is the sum of this moment and an offset
abbrev pub IsDueFrom : ℕ → ℤ → Type 0
IsDueFrom moment due = (offset : ℤ) × IsBetween LOWEST_OFFSET HIGHEST_OFFSET offset × (due ≡ (pos moment +ℤ offset))

-- an arrival has the next ticket, a free place, a class in range, and a due date that is the
-- event's moment plus an offset
pub record IsNewcomer (state : State) (moment : ℕ) (arrival : Arrival) : Type 0 where
  pub numbered : arrival.ticket ≡ state.ticket + 1
  pub vacant : IsVacant state.rows arrival.place
  pub class : IsBetween LOWEST_CLASS HIGHEST_CLASS arrival.class
  pub due : IsDueFrom moment arrival.due

-- expired: a request has waited as long as requests may
abbrev pub HasExpired : Setup → ℕ → Phase → Type 0
HasExpired setup now (Waiting queue since) = (0 < setup.queue_timeout) × (since + setup.queue_timeout ≤ now)
HasExpired setup now Loose = ⊥
HasExpired setup now (Serving server) = ⊥
HasExpired setup now (Told cause) = ⊥

abbrev pub IsExpired : Setup → State → Row → Type 0
IsExpired setup state row = IsRow state.rows row × HasExpired setup state.moment row.phase

-- the expired request with the lowest ticket
pub record IsFirstExpired (setup : Setup) (state : State) (ticket : ℕ) : Type 0 where
  pub row : Row
  pub expired : IsExpired setup state row
  pub named : row.key.ticket ≡ ticket
  pub first : (other : Row) → IsExpired setup state other → ticket ≤ other.key.ticket

-- the request with the least key in a queue
pub record IsFirstIn (queue : Queue) (rows : Rows) (ticket : ℕ) : Type 0 where
  pub row : Row
  pub live : IsRow rows row
  pub named : row.key.ticket ≡ ticket
  pub waits : IsTrue (phase_waits_in queue row.phase)
  pub least : IsLeastOf (phase_waits_in queue) rows row.key

-- whether a server was up before the last result of its checks
abbrev pub was_up : Setup → State → ℕ → Bool
was_up setup state server = option_map_or (λ it. is_up_by it.rise_fall (without_last (results_of state.results server))) (slice_get setup.servers server) false

-- the stage of an event: what comes next in it
pub data Stage : Type 0 where
  -- the placement of this ticket, which has just arrived
  placing : ℕ → Stage
  -- the first entry of the return of this ticket's slot: the slot is freed, or where the ticket was
  -- told why it has none, it ends
  returning : ℕ → Stage
  -- the end of this ticket
  ending : ℕ → Stage
  -- the first entry after the failure of this ticket's connection: it is retried, or its slot is freed
  failing : ℕ → Stage
  -- what follows for this ticket, whose slot at this server was freed after a failure
  freed_by_failure : ℕ → ℕ → Stage
  -- the first entry after the abort of this ticket
  aborting : ℕ → Stage
  -- the expired requests are told, one by one
  telling : Stage
  -- whether a check changed the health of this server
  checking : ℕ → Stage
  -- the requests in the queue of this server, which went down or was closed, are moved one by one
  emptying : ℕ → Stage
  -- grants as long as one is lawful, and then the next event
  granting : Stage

-- an event owes nothing more but grants: no expired request is untold, no change of health
-- unreported, and no request is still in the queue of a server that went down or was closed where
-- it is to be moved
abbrev pub EventIsOver : Setup → State → Stage → Type 0
EventIsOver setup state granting = Unit {0}
EventIsOver setup state telling = (row : Row) → IsExpired setup state row → ⊥
EventIsOver setup state (checking server) = was_up setup state server ≡ is_up (scene setup state) server
EventIsOver setup state (emptying server) = IsTrue setup.redispatch → IsEmptyQueue (Server server) state.rows
EventIsOver setup state stage = ⊥

-- grants may come: the event owes nothing else, or it redispatches a request, whose freed slot
-- another request may take first
abbrev pub MayGrant : Setup → State → Stage → Type 0
MayGrant setup state (freed_by_failure leaver server) = IsTrue (are_redispatched setup (failures_of leaver state.rows))
MayGrant setup state stage = EventIsOver setup state stage

-- an event may begin: the one before is over, all is settled, nothing refuses the call, and moments never fall and stay
-- below 2 ^ 62
pub record MayBegin (point : Point) (stage : Stage) (moment : ℕ) (refused : Option Refusal) : Type 0 where
  pub over : EventIsOver point.setup point.state stage
  pub settled : IsSettled (scene point.setup point.state)
  pub accepted : refused ≡ None
  pub later : point.state.moment ≤ moment
  pub within : moment < 2 ^ 62

-- a request without a phase takes a slot, joins a queue, or is told that no server is usable
abbrev pub IsPut : Scene → ℕ → Option ℕ → Option ℕ → ℕ → Entry → Type 0
IsPut scene cursor pin avoid newcomer (Direct ticket server) = (ticket ≡ newcomer) × IsDirect scene cursor pin avoid server
IsPut scene cursor pin avoid newcomer (Joined ticket queue) = (ticket ≡ newcomer) × IsJoining scene cursor pin avoid queue
IsPut scene cursor pin avoid newcomer (Left ticket NoServer) = (ticket ≡ newcomer) × IsTurnedAway scene pin
IsPut scene cursor pin avoid newcomer entry = ⊥

-- a redispatched request is placed again once all is settled, at another server than the one that
-- failed where that can be
pub record IsPutAnew (setup : Setup) (state : State) (leaver server : ℕ) (entry : Entry) : Type 0 where
  pub redispatched : IsTrue (are_redispatched setup (failures_of leaver state.rows))
  pub settled : IsSettled (scene setup state)
  pub put : IsPut (scene setup state) state.cursor None (Some server) leaver entry

-- an entry may come at a point of a log, at this stage
abbrev pub MayCome : Point → Stage → Entry → Type 0
MayCome point stage (Arrive moment arrival) =
    MayBegin point stage moment (arrival_refusal point.setup point.state point.used arrival.pin) × IsNewcomer point.state moment arrival
MayCome point stage (Done moment ticket) = MayBegin point stage moment (done_refusal point.setup point.state point.used ticket)
MayCome point stage (Fail moment ticket) = MayBegin point stage moment (failure_refusal point.setup point.state point.used ticket)
MayCome point stage (Abort moment ticket) = MayBegin point stage moment (abort_refusal point.setup point.state point.used ticket)
MayCome point stage (Tick moment) = MayBegin point stage moment (tick_refusal point.setup point.used)
MayCome point stage (Check moment server ok) = MayBegin point stage moment (check_refusal point.setup point.used server)
MayCome point stage (Limit moment server limit) = MayBegin point stage moment (limit_refusal point.setup point.used server)
MayCome point stage (Granted ticket queue server) =
    MayGrant point.setup point.state stage × IsLawfulGrant (scene point.setup point.state) point.state.cursor ticket queue server
MayCome point (placing newcomer) entry = IsPut (scene point.setup point.state) point.state.cursor (pin_of newcomer point.state.rows) None newcomer entry
MayCome point (returning leaver) (Freed ticket server) = (ticket ≡ leaver) × HasSlot point.state.rows ticket server
MayCome point (returning leaver) (Ended ticket) = (ticket ≡ leaver) × IsTold point.state.rows ticket
MayCome point (ending leaver) (Ended ticket) = ticket ≡ leaver
MayCome point (failing leaver) (Retried ticket server failures) =
    (ticket ≡ leaver) × HasSlot point.state.rows ticket server × (failures_of ticket point.state.rows ≡ failures) × IsTrue (are_retried point.setup failures)
MayCome point (failing leaver) (Freed ticket server) =
    (ticket ≡ leaver) × HasSlot point.state.rows ticket server × (IsTrue (are_retried point.setup (failures_of ticket point.state.rows)) → ⊥)
MayCome point (freed_by_failure leaver server) (Left ticket Retries) =
    (ticket ≡ leaver) × IsTrue (are_spent point.setup (failures_of ticket point.state.rows))
MayCome point (freed_by_failure leaver server) entry = IsPutAnew point.setup point.state leaver server entry
MayCome point (aborting leaver) (Left ticket Aborted) = (ticket ≡ leaver) × IsInPhase is_waiting point.state.rows ticket
MayCome point telling (Left ticket Timeout) = IsFirstExpired point.setup point.state ticket
MayCome point (checking checked) (Health server up) =
    (server ≡ checked) × (is_up (scene point.setup point.state) server ≡ up) × (was_up point.setup point.state server ≢ up)
MayCome point (emptying emptied) (Moved ticket server) =
    (server ≡ emptied) × IsTrue point.setup.redispatch × IsFirstIn (Server server) point.state.rows ticket
MayCome point stage entry = ⊥

-- the stage after a new limit of a server: where the server is closed, the requests in its queue are next
abbrev pub limit_stage : ℕ → Intake → Stage
limit_stage server (Open limit) = granting
limit_stage server Closed = emptying server

-- the stage after an entry
abbrev pub next_stage : Stage → Entry → Stage
next_stage stage (Arrive moment arrival) = placing arrival.ticket
next_stage stage (Done moment ticket) = returning ticket
next_stage stage (Fail moment ticket) = failing ticket
next_stage stage (Abort moment ticket) = aborting ticket
next_stage stage (Tick moment) = telling
next_stage stage (Check moment server ok) = checking server
next_stage stage (Limit moment server limit) = limit_stage server limit
next_stage (failing leaver) (Freed ticket server) = freed_by_failure ticket server
next_stage stage (Freed ticket server) = ending ticket
next_stage (freed_by_failure leaver server) (Granted ticket queue taker) = freed_by_failure leaver server
next_stage telling (Left ticket cause) = telling
next_stage stage (Health server true) = granting
next_stage stage (Health server false) = emptying server
next_stage stage (Moved ticket server) = emptying server
next_stage stage entry = granting

abbrev pub stage_after : Stage → List Entry → Stage
stage_after stage [] = stage
stage_after stage (entry ∷ entries) = stage_after (next_stage stage entry) entries

-- each entry may come at its point and stage
abbrev pub AllMayCome : Point → Stage → List Entry → Type 0
AllMayCome point stage [] = Unit {0}
AllMayCome point stage (entry ∷ entries) =
    MayCome point stage entry × AllMayCome (next_point point entry) (next_stage stage entry) entries

-- the entries from a point on are lawful: each may come where it stands, the last event is over,
-- and all is settled
pub record AreLawful (point : Point) (entries : List Entry) : Type 0 where
  pub judged : AllMayCome point granting entries
  pub whole : EventIsOver point.setup (after_all point.setup point.state entries) (stage_after granting entries)
  pub settled : IsSettled (scene point.setup (after_all point.setup point.state entries))
