-- The live requests: a list of places, each of which is empty or has a row.
use Rattle.std.specs.Prelude.{◌≡◌, ℕ, ◌==◌, Bool, false, true, IsTrue, List, [], ◌∷◌, Option, None, Some, map, count_by, slice_get, if◌then◌else◌}
use Rattle.std.specs.Option.{option_and_then, option_map_or}
use Rattle.std.specs.Ordering.{nat_cmp}
use Rattle.std.specs.declared.cmp.Ordering.{Ordering}
use Rattle.std.specs.declared.cmp.Ordering.TheVariants.{Less, Equal, Greater}
use Rattle.log_entries.specs.declared.queue.Queue.{Queue}
use Rattle.log_entries.specs.declared.queue.Queue.TheVariants.{Backend, Server}
use Rattle.log_entries.specs.declared.row.Phase.{Phase}
use Rattle.log_entries.specs.declared.row.Phase.TheVariants.{Loose, Waiting, Serving, Told}
use Rattle.log_entries.specs.declared.row.Row.{Row}

-- the places in order
abbrev pub Rows : Type 0
Rows = List (Option Row)

-- a row stands at a place
abbrev pub StandsAt : Rows → ℕ → Row → Type 0
StandsAt rows place row = slice_get rows place ≡ Some (Some row)

-- a place exists and is empty
abbrev pub IsVacant : Rows → ℕ → Type 0
IsVacant rows place = slice_get rows place ≡ Some None

-- a row is one of the rows
abbrev pub IsRow : Rows → Row → Type 0
IsRow rows row = (place : ℕ) × StandsAt rows place row

-- a place has the row of a ticket
abbrev pub has_ticket : ℕ → Option Row → Bool
has_ticket ticket None = false
has_ticket ticket (Some row) = row.key.ticket == ticket

-- the row of a ticket
abbrev pub row_of : ℕ → Rows → Option Row
row_of ticket [] = None
row_of ticket (place ∷ rows) = if has_ticket ticket place then place else row_of ticket rows

-- two queues are the same
abbrev pub same_queue : Queue → Queue → Bool
same_queue Backend Backend = true
same_queue (Server a) (Server b) = a == b
same_queue a b = false

-- the order of queues: the backend's is first, then the servers' in file order
abbrev pub queue_cmp : Queue → Queue → Ordering
queue_cmp Backend Backend = Equal
queue_cmp Backend (Server b) = Less
queue_cmp (Server a) Backend = Greater
queue_cmp (Server a) (Server b) = nat_cmp a b

abbrev pub phase_waits_in : Queue → Phase → Bool
phase_waits_in queue (Waiting other since) = same_queue queue other
phase_waits_in queue Loose = false
phase_waits_in queue (Serving server) = false
phase_waits_in queue (Told cause) = false

abbrev pub phase_is_served_by : ℕ → Phase → Bool
phase_is_served_by server (Serving other) = other == server
phase_is_served_by server Loose = false
phase_is_served_by server (Waiting queue since) = false
phase_is_served_by server (Told cause) = false

abbrev pub phase_is_told : Phase → Bool
phase_is_told (Told cause) = true
phase_is_told Loose = false
phase_is_told (Waiting queue since) = false
phase_is_told (Serving server) = false

-- a place's row waits in a queue
abbrev pub waits_in : Queue → Option Row → Bool
waits_in queue None = false
waits_in queue (Some row) = phase_waits_in queue row.phase

-- a place's row has a slot of a server
abbrev pub is_served_by : ℕ → Option Row → Bool
is_served_by server None = false
is_served_by server (Some row) = phase_is_served_by server row.phase

-- the number of requests that a server serves
abbrev pub served : ℕ → Rows → ℕ
served server rows = count_by (is_served_by server) rows

-- the number of requests that wait in a queue
abbrev pub queued : Queue → Rows → ℕ
queued queue rows = count_by (waits_in queue) rows

-- no request waits in a queue
abbrev pub IsEmptyQueue : Queue → Rows → Type 0
IsEmptyQueue queue rows = (row : Row) → IsRow rows row → IsTrue (phase_waits_in queue row.phase) → ⊥

-- the number of rows with a ticket
abbrev pub rows_of : ℕ → Rows → ℕ
rows_of ticket rows = count_by (has_ticket ticket) rows

-- a place, where a row with this ticket is changed
abbrev pub with_change : ℕ → (Row → Option Row) → Option Row → Option Row
with_change ticket change None = None
with_change ticket change (Some row) = if row.key.ticket == ticket then change row else Some row

abbrev pub changed : ℕ → (Row → Option Row) → Rows → Rows
changed ticket change rows = map (with_change ticket change) rows

-- a row in another phase
abbrev pub in_phase : Phase → Row → Option Row
in_phase phase row = Some (record row { phase = phase })

-- a row that was moved into the backend's queue: it has no pin any more
abbrev pub in_backend_since : ℕ → Row → Option Row
in_backend_since moment row = Some (record row { pin = None; phase = Waiting Backend moment })

-- the row is removed
abbrev pub gone : Row → Option Row
gone row = None

-- the server that a phase has a slot of
abbrev pub server_in : Phase → Option ℕ
server_in (Serving server) = Some server
server_in Loose = None
server_in (Waiting queue since) = None
server_in (Told cause) = None

-- the queue that a phase waits in
abbrev pub queue_in : Phase → Option Queue
queue_in (Waiting queue since) = Some queue
queue_in Loose = None
queue_in (Serving server) = None
queue_in (Told cause) = None

-- the pin of a ticket's row
abbrev pub pin_of : ℕ → Rows → Option ℕ
pin_of ticket rows = option_and_then (λ row. row.pin) (row_of ticket rows)

-- the number of connections that failed for a ticket
abbrev pub failures_of : ℕ → Rows → ℕ
failures_of ticket rows = option_map_or (λ row. row.failures) (row_of ticket rows) 0
