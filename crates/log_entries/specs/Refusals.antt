-- The refusals of calls: the first one that applies is the answer.
use Rattle.std.specs.Prelude.{ℕ, ◌+◌, ◌-◌, ◌*◌, ◌^◌, nat_lt, nat_le, Bool, true, false, List, []}
use Rattle.std.specs.Prelude.{◌∷◌, Option, None, Some, count_by, is_some, is_none, not, length, slice_get, if◌then◌else◌}
use Rattle.std.specs.Option.{option_map_or}
use Rattle.log_entries.specs.declared.refusal.Refusal.{Refusal}
use Rattle.log_entries.specs.declared.refusal.Refusal.TheVariants.{NoMemory, PlacesFull, LogFull, NoSuchTicket, WrongPhase, NoSuchServer, TicketsSpent}
use Rattle.log_entries.specs.declared.row.Phase.{Phase}
use Rattle.log_entries.specs.declared.row.Phase.TheVariants.{Loose, Waiting, Serving, Told}
use Rattle.log_entries.specs.declared.setup.Setup.{Setup}
use Rattle.log_entries.specs.Rows.{Rows, row_of}
use Rattle.log_entries.specs.States.{State}

-- the number of a refusal, as traces print it
abbrev pub refusal_number : Refusal → ℕ
refusal_number NoMemory = 1
refusal_number PlacesFull = 2
refusal_number LogFull = 3
refusal_number NoSuchTicket = 4
refusal_number WrongPhase = 5
refusal_number NoSuchServer = 6
refusal_number TicketsSpent = 14

-- the first refusal whose test holds
abbrev pub first_of : List (Bool × Refusal) → Option Refusal
first_of [] = None
first_of (refusal ∷ refusals) = if refusal.0 then Some refusal.1 else first_of refusals

-- the room that the log must have before an event: no event writes more entries
abbrev pub entry_room : Setup → ℕ
entry_room setup = 2 * setup.places + 8

-- the log has less free room than an event needs
abbrev pub lacks_room : Setup → ℕ → Bool
lacks_room setup used = nat_lt (setup.log - used) (entry_room setup)

-- all places have live requests
abbrev pub is_full : Setup → Rows → Bool
is_full setup rows = nat_le setup.places (count_by is_some rows)

-- the next ticket would be 2 ^ 40
abbrev pub tickets_are_spent : ℕ → Bool
tickets_are_spent last = nat_le (2 ^ 40) (last + 1)

-- a row waits; a row has a slot
abbrev pub is_waiting : Phase → Bool
is_waiting (Waiting queue since) = true
is_waiting Loose = false
is_waiting (Serving server) = false
is_waiting (Told cause) = false

abbrev pub has_a_slot : Phase → Bool
has_a_slot (Serving server) = true
has_a_slot Loose = false
has_a_slot (Waiting queue since) = false
has_a_slot (Told cause) = false

-- a pin names a server that doesn't exist
abbrev pub pins_to_none : Setup → Option ℕ → Bool
pins_to_none setup None = false
pins_to_none setup (Some server) = nat_le (length setup.servers) server

-- why an arrival with this pin is refused, at a state after this many entries
abbrev pub arrival_refusal : Setup → State → ℕ → Option ℕ → Option Refusal
arrival_refusal setup state used pin =
    first_of ((lacks_room setup used, LogFull) ∷ (pins_to_none setup pin, NoSuchServer) ∷ (tickets_are_spent state.ticket, TicketsSpent) ∷
    (is_full setup state.rows, PlacesFull) ∷ [])

-- why an event of a ticket is refused whose row may not be in a phase of this kind
abbrev pub ticket_refusal : (Phase → Bool) → Setup → State → ℕ → ℕ → Option Refusal
ticket_refusal wrong setup state used ticket =
    let row = row_of ticket state.rows in
    first_of ((lacks_room setup used, LogFull) ∷ (is_none row, NoSuchTicket) ∷ (option_map_or (λ it. wrong it.phase) row false, WrongPhase) ∷ [])

-- why the return of a ticket's slot is refused: no row has the ticket, or it still waits
abbrev pub done_refusal : Setup → State → ℕ → ℕ → Option Refusal
done_refusal = ticket_refusal is_waiting

-- why a ticket's failure is refused: no row has the ticket, or it has no slot
abbrev pub failure_refusal : Setup → State → ℕ → ℕ → Option Refusal
failure_refusal = ticket_refusal (λ phase. not (has_a_slot phase))

-- why a ticket's abort is refused: no row has the ticket, or it doesn't wait
abbrev pub abort_refusal : Setup → State → ℕ → ℕ → Option Refusal
abort_refusal = ticket_refusal (λ phase. not (is_waiting phase))

-- why a tick is refused: only where the log is full
abbrev pub tick_refusal : Setup → ℕ → Option Refusal
tick_refusal setup used = first_of ((lacks_room setup used, LogFull) ∷ [])

-- a server is checked
abbrev pub is_checked : Setup → ℕ → Bool
is_checked setup server = option_map_or (λ it. is_some it.rise_fall) (slice_get setup.servers server) false

-- why a check is refused: the server doesn't exist, or isn't checked
abbrev pub check_refusal : Setup → ℕ → ℕ → Option Refusal
check_refusal setup used server =
    first_of ((lacks_room setup used, LogFull) ∷ (nat_le (length setup.servers) server, NoSuchServer) ∷ (not (is_checked setup server), WrongPhase) ∷ [])

-- why a new limit is refused: the server doesn't exist
abbrev pub limit_refusal : Setup → ℕ → ℕ → Option Refusal
limit_refusal setup used server = first_of ((lacks_room setup used, LogFull) ∷ (nat_le (length setup.servers) server, NoSuchServer) ∷ [])
