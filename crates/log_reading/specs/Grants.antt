-- What a window says of the requests that leave a queue for a slot. Positions count its entries from 1, events included.
use Rattle.std.specs.Prelude.{ℕ, ◌+◌, ◌==◌, ◌&&◌, ◌||◌, Bool, false, ℤ, List, [], ◌∷◌, ◌++◌, Option, None, Some, map, take, length, if◌then◌else◌}
use Rattle.std.specs.List.{fold, filter, list_any}
use Rattle.std.specs.Option.{unwrap_or, option_map_or}
use Rattle.std.specs.Ordering.{int_eq}
use Rattle.due_key.specs.declared.key.Key.{Key}
use Rattle.log_entries.specs.declared.entry.Arrival.{Arrival}
use Rattle.log_entries.specs.declared.entry.Entry.{Entry}
use Rattle.log_entries.specs.declared.entry.Entry.TheVariants.{Arrive, Done, Fail, Abort, Tick, Check, Limit, Joined, Granted, Moved}
use Rattle.log_entries.specs.declared.queue.Queue.{Queue}
use Rattle.log_entries.specs.declared.queue.Queue.TheVariants.{Backend}
use Rattle.log_entries.specs.Rows.{same_queue}
use Rattle.log_entries.specs.States.{key_of}
use Rattle.log_reading.specs.Windows.{Window, base_key, waited_in}
use Rattle.log_reading.specs.declared.base.BaseRow.{BaseRow}
use Rattle.log_reading.specs.declared.grant.SlotGrant.{SlotGrant}
use Rattle.log_reading.specs.declared.grant.Stay.{Stay}

-- a ticket in a queue
pub record Wait : Type 0 where
  pub ticket : ℕ
  pub queue : Queue

-- the moment of an event; none for another entry
abbrev pub moment_in : Entry → Option ℕ
moment_in (Arrive moment arrival) = Some moment
moment_in (Done moment ticket) = Some moment
moment_in (Fail moment ticket) = Some moment
moment_in (Abort moment ticket) = Some moment
moment_in (Tick moment) = Some moment
moment_in (Check moment server ok) = Some moment
moment_in (Limit moment server limit) = Some moment
moment_in entry = None

-- the arrival of an entry, if it is one
abbrev pub arrival_in : Entry → Option Arrival
arrival_in (Arrive moment arrival) = Some arrival
arrival_in entry = None

-- the wait that begins with an entry: a request joins a queue, or is moved into the backend's
abbrev pub joining_in : Entry → Option Wait
joining_in (Joined ticket queue) = Some (record { ticket = ticket; queue = queue })
joining_in (Moved ticket server) = Some (record { ticket = ticket; queue = Backend })
joining_in entry = None

-- the wait that ends with an entry, by the grant of a slot
abbrev pub grant_in : Entry → Option Wait
grant_in (Granted ticket queue server) = Some (record { ticket = ticket; queue = queue })
grant_in entry = None

-- the moment of the last event; 0 before the first one
abbrev pub moment_of : List Entry → ℕ
moment_of log = fold (λ moment entry. unwrap_or (moment_in entry) moment) 0 log

-- the moment at a position: that of its entry's event
abbrev pub moment_at : List Entry → ℕ → ℕ
moment_at log position = moment_of (take position log)

-- the key of a ticket, where the entry is its arrival, or else as before
abbrev pub newer_key : ℕ → Option Key → Entry → Option Key
newer_key ticket before entry =
    option_map_or (λ it. if it.ticket == ticket then Some (key_of it) else before) (arrival_in entry) before

-- the key of a ticket: that of its last arrival, or else the one in the base
abbrev pub key_known : List BaseRow → ℕ → List Entry → Option Key
key_known base ticket log = fold (newer_key ticket) (base_key ticket base) log

-- the position of the last entry that passes a test; 0 where none does
abbrev pub last_position : (Entry → Bool) → List Entry → ℕ
last_position test [] = 0
last_position test (entry ∷ entries) = if list_any test (entry ∷ entries) then last_position test entries + 1 else 0

-- an entry puts a ticket into a queue
abbrev pub joins : ℕ → Queue → Entry → Bool
joins ticket queue entry = option_map_or (λ it. (it.ticket == ticket) && same_queue queue it.queue) (joining_in entry) false

-- the position of the last entry that put a ticket into a queue; 0 where none did
abbrev pub joining_of : ℕ → Queue → List Entry → ℕ
joining_of ticket queue log = last_position (joins ticket queue) log

-- a ticket has joined a queue, by an entry or in the base
abbrev pub has_joined : List BaseRow → ℕ → Queue → List Entry → Bool
has_joined base ticket queue log = waited_in ticket queue base || list_any (joins ticket queue) log

-- the grant of a ticket with this key after the entries of a log; a ticket that waits since the base joined at 0
abbrev pub grant_of : List Entry → Wait → Key → SlotGrant
grant_of past wait key = record {
  queue = wait.queue;
  class = key.class;
  moment = moment_of past;
  stay = record { ticket = wait.ticket; joined = joining_of wait.ticket wait.queue past; slot = length past + 1; due = key.due };
}

-- the grant of an entry after the entries of a log, if it is one; none where the ticket isn't known
abbrev pub grant_after : List BaseRow → List Entry → Entry → Option SlotGrant
grant_after base past entry =
    option_map_or (λ wait. option_map_or (λ key. Some (grant_of past wait key)) (key_known base wait.ticket past) None) (grant_in entry) None

-- the grants of entries after the entries of a log
abbrev pub grants_after : List BaseRow → List Entry → List Entry → List SlotGrant
grants_after base past [] = []
grants_after base past (entry ∷ entries) =
    option_map_or (λ grant. grant ∷ []) (grant_after base past entry) [] ++ grants_after base (past ++ entry ∷ []) entries

-- the grants of a window, in order
abbrev pub grants : Window → List SlotGrant
grants window = grants_after window.base [] window.entries

-- a grant is of a queue and class
abbrev pub is_of : Queue → ℤ → SlotGrant → Bool
is_of queue class grant = same_queue queue grant.queue && int_eq class grant.class

-- the stays of a queue and class that ended with the grant of a slot, in order
abbrev pub stays : Window → Queue → ℤ → List Stay
stays window queue class = map (λ grant. grant.stay) (filter (is_of queue class) (grants window))
