-- The numbers of each request, as a log tells them entry by entry.
use Rattle.std.specs.Prelude.{◌≡◌, ℕ, ◌+◌, ◌-◌, ◌^◌, min, ℤ, ◌-ℤ◌, pos, ◌==◌, ◌&&◌, Bool, List, ◌∷◌, ◌++◌, [], Option, None, Some, length, filter, drop, nat_lt, if◌then◌else◌}
use Rattle.std.specs.Ordering.{int_eq, nat_cmp}
use Rattle.std.specs.BTreeMap.{is_at}
use Rattle.std.specs.Map.{lookup}
use Rattle.std.specs.Option.{option_map, option_map_or}
use Rattle.log_entries.specs.declared.entry.Entry.{Entry}
use Rattle.log_entries.specs.declared.entry.Entry.TheVariants.{Arrive, Fail, Direct, Joined, Granted, Moved, Left}
use Rattle.log_entries.specs.declared.queue.Queue.{Queue}
use Rattle.log_entries.specs.declared.queue.Queue.TheVariants.{Backend}
use Rattle.log_entries.specs.Rows.{same_queue}
use Rattle.log_reading.specs.Grants.{moment_of}
use Rattle.log_stretches.specs.Courses.{came_in, later}
use Rattle.log_stretches.specs.declared.course.Came.{Came}
use Rattle.log_lines.specs.declared.numbers.GrantNumbers.{GrantNumbers}
use Rattle.log_lines.specs.declared.numbers.StayNumbers.{StayNumbers}
use Rattle.log_lines.specs.declared.numbers.Numbers.{Numbers}

-- a window so far: its number, and the grants to requests that waited, in order
pub record WindowSoFar : Type 0 where
  pub number : ℕ
  pub given : List GrantNumbers

-- the knowledge after some entries: their last moment, the present window, and the numbers of requests by ticket
pub record Following : Type 0 where
  pub moment : ℕ
  pub window : WindowSoFar
  pub numbers : List (ℕ × Numbers)

-- the numbers of a request, where some are known
abbrev pub known : Following → ℕ → Option Numbers
known following ticket = lookup (is_at (nat_cmp ticket)) following.numbers

-- a grant went to a request that came later than this one, from this queue and of its class
abbrev pub overtakes : Queue → Came → GrantNumbers → Bool
overtakes queue came given =
    same_queue queue given.queue && (int_eq came.arrival.class given.class && nat_lt came.arrival.ticket given.ticket)

-- the grants of the present window since a stay began; all of them, where it began in an earlier window
abbrev pub grants_since : WindowSoFar → StayNumbers → List GrantNumbers
grants_since window stay = if stay.window == window.number then drop stay.since window.given else window.given

-- the number of slots that requests of the same queue got during a stay, and of those among them
-- that were of the same class and came later
abbrev pub ahead : WindowSoFar → StayNumbers → ℕ
ahead window stay = length (filter (λ given. same_queue stay.queue given.queue) (grants_since window stay))

abbrev pub overtakers : WindowSoFar → Came → StayNumbers → ℕ
overtakers window came stay = length (filter (overtakes stay.queue came) (grants_since window stay))

-- a counter that saturates at its greatest value
abbrev pub one_more : ℕ → ℕ
one_more count = min (count + 1) (2 ^ 32 - 1)

-- a request that arrived, of which nothing else is known
abbrev pub new_numbers : Came → Numbers
new_numbers came = record { came = came; failures = 0; slots = 0; stay = None; slot = None; cause = None }

-- it is given a slot at this moment: after this stay in a queue, or without one
abbrev pub given_slot : ℕ → WindowSoFar → ℕ → Option StayNumbers → Numbers → Numbers
given_slot moment window server stay before = record before {
  slots = one_more before.slots;
  stay = None;
  slot = Some (record {
    moment = moment;
    server = server;
    window = window.number;
    stay = stay;
    ahead = option_map_or (ahead window) stay 0;
    overtakers = option_map_or (overtakers window before.came) stay 0;
  });
}

-- it waits in a queue from now on
abbrev pub put_into : WindowSoFar → Queue → Numbers → Numbers
put_into window queue before = record before { stay = Some (record { queue = queue; window = window.number; since = length window.given }) }

-- the request of an entry that isn't an arrival, if it names one
abbrev pub named_in : Entry → Option ℕ
named_in (Fail moment ticket) = Some ticket
named_in (Direct ticket server) = Some ticket
named_in (Joined ticket queue) = Some ticket
named_in (Granted ticket queue server) = Some ticket
named_in (Moved ticket server) = Some ticket
named_in (Left ticket cause) = Some ticket
named_in entry = None

-- the numbers of that request after the entry at this moment
abbrev pub numbers_after : ℕ → WindowSoFar → Numbers → Entry → Numbers
numbers_after moment window before (Fail at ticket) = record before { failures = one_more before.failures }
numbers_after moment window before (Direct ticket server) = given_slot moment window server None before
numbers_after moment window before (Joined ticket queue) = put_into window queue before
numbers_after moment window before (Granted ticket queue server) = given_slot moment window server before.stay before
numbers_after moment window before (Moved ticket server) = put_into window Backend before
numbers_after moment window before (Left ticket cause) = record before { stay = None; cause = Some cause }
numbers_after moment window before entry = before

-- the arrival of an entry, if it is one
abbrev pub came_by : Entry → Option Came
came_by (Arrive at arrival) = Some (record { moment = at; arrival = arrival })
came_by entry = None

-- the numbers of any request after an entry that isn't an arrival; none where its arrival isn't known
abbrev pub told_after : ℕ → ℕ → WindowSoFar → Option Numbers → Entry → Option Numbers
told_after ticket moment window before entry =
    option_map_or (λ named. if named == ticket then option_map (λ it. numbers_after moment window it entry) before else before) (named_in entry) before

-- the numbers of any request after an entry
abbrev pub known_after : ℕ → ℕ → WindowSoFar → Option Numbers → Entry → Option Numbers
known_after ticket moment window before entry =
    option_map_or (λ (came : Came). if came.arrival.ticket == ticket then Some (new_numbers came) else before) (came_by entry)
    (told_after ticket moment window before entry)

-- the grant of an entry, if it is one to a request that waited and whose arrival is known
abbrev pub given_by : (ℕ → Option Numbers) → Entry → List GrantNumbers
given_by numbers (Granted ticket queue server) =
    option_map_or (λ it. record { queue = queue; class = it.came.arrival.class; ticket = ticket } ∷ []) (numbers ticket) []
given_by numbers entry = []

-- the knowledge after one more entry
pub record Follows (old : Following) (entry : Entry) (new : Following) : Type 0 where
  pub moment : new.moment ≡ later entry old.moment
  pub window : new.window ≡ record old.window { given = old.window.given ++ given_by (known old) entry }
  pub numbers : (ticket : ℕ) → known new ticket ≡ known_after ticket (later entry old.moment) old.window (known old ticket) entry

-- the knowledge agrees with a log: its last moment, and the arrival of each request with numbers
pub record FollowsLog (log : List Entry) (following : Following) : Type 0 where
  pub moment : following.moment ≡ moment_of log
  pub came : (ticket : ℕ) (numbers : Numbers) → known following ticket ≡ Some numbers → came_in log ticket ≡ Some numbers.came

-- the time that a request waited for its last slot, from its arrival, and the lateness of that slot
abbrev pub waited : Numbers → Option ℕ
waited numbers = option_map (λ slot. slot.moment - numbers.came.moment) numbers.slot

abbrev pub slot_lateness : Numbers → Option ℤ
slot_lateness numbers = option_map (λ slot. pos slot.moment -ℤ numbers.came.arrival.due) numbers.slot
