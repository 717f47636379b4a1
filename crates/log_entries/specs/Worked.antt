-- Worked examples of logs that aren't legal, each for one reason.
use Rattle.std.specs.Prelude.{ℕ, ◌^◌, ℤ, pos, negsuc, List, [], ◌∷◌, ◌++◌, None, Some, false}
use Rattle.log_entries.specs.declared.entry.Arrival.{Arrival}
use Rattle.log_entries.specs.declared.entry.Entry.{Entry}
use Rattle.log_entries.specs.declared.entry.Entry.TheVariants.{Arrive, Done, Direct, Joined, Granted, Freed, Ended}
use Rattle.log_entries.specs.declared.queue.Queue.TheVariants.{Backend, Server}
use Rattle.log_entries.specs.declared.setup.ServerSet.{ServerSet}
use Rattle.log_entries.specs.declared.setup.Setup.{Setup}
use Rattle.log_entries.specs.Histories.{History, first_window}

-- one plain server, four places
abbrev pub plain_server : ServerSet
plain_server = record { limit = 1; maxqueue = 0; weight = 1; rise_fall = None }

abbrev pub worked_setup : Setup
worked_setup = record { servers = plain_server ∷ []; places = 4; log = 64; retries = 3; redispatch = false; queue_timeout = 0 }

abbrev pub worked : List Entry → History
worked log = first_window worked_setup log

-- an arrival of class 0 without a pin
abbrev pub arrival : ℕ → ℤ → ℕ → Arrival
arrival ticket due place = record { ticket = ticket; class = pos 0; due = due; pin = None; place = place }

-- the same, pinned to a server
abbrev pub bound_to : ℕ → ℕ → ℤ → ℕ → Arrival
bound_to server ticket due place = record (arrival ticket due place) { pin = Some server }

abbrev pub bound : ℕ → ℤ → ℕ → Arrival
bound = bound_to 0

-- ticket 1 is served; 2 and 3 wait, and 3 is due first
abbrev pub two_wait : List Entry
two_wait =
    Arrive 0 (arrival 1 (pos 0) 0) ∷ Direct 1 0
    ∷ Arrive 1 (arrival 2 (pos 1) 1) ∷ Joined 2 Backend
    ∷ Arrive 2 (arrival 3 (negsuc 2) 2) ∷ Joined 3 Backend ∷ []

-- first come, first served: 2 is granted before 3
abbrev pub first_come_first_served : List Entry
first_come_first_served = two_wait ++ Done 10 1 ∷ Freed 1 0 ∷ Ended 1 ∷ Granted 2 Backend 0 ∷ []

-- the freed slot stays idle
abbrev pub idle_slot : List Entry
idle_slot = two_wait ++ Done 10 1 ∷ Freed 1 0 ∷ Ended 1 ∷ []

-- a second request is served beside the first one
abbrev pub grant_above_the_limit : List Entry
grant_above_the_limit = two_wait ++ Granted 3 Backend 0 ∷ []

-- the due date isn't the sum of the moment and any offset
abbrev pub due_date_of_no_offset : List Entry
due_date_of_no_offset = Arrive 5 (arrival 1 (pos 524293) 0) ∷ Direct 1 0 ∷ []

-- an arrival with a class above the highest one
abbrev pub class_out_of_range : List Entry
class_out_of_range = Arrive 0 (record (arrival 1 (pos 0) 0) { class = pos 2048 }) ∷ Direct 1 0 ∷ []

-- an arrival at the first moment that is too late
abbrev pub moment_out_of_range : List Entry
moment_out_of_range = Arrive (2 ^ 62) (arrival 1 (pos (2 ^ 62)) 0) ∷ Direct 1 0 ∷ []

-- a slot is freed, and its request doesn't end
abbrev pub end_is_missing : List Entry
end_is_missing = two_wait ++ Done 10 1 ∷ Freed 1 0 ∷ Granted 3 Backend 0 ∷ []

-- a ticket is left out: the first arrival has ticket 2
abbrev pub ticket_left_out : List Entry
ticket_left_out = Arrive 0 (arrival 2 (pos 0) 0) ∷ Direct 2 0 ∷ []

-- the slot goes to the backend's first request, though the server's own first one is due earlier
abbrev pub backend_head_first : List Entry
backend_head_first =
    Arrive 0 (arrival 1 (pos 0) 0) ∷ Direct 1 0
    ∷ Arrive 1 (bound 2 (pos 1) 1) ∷ Joined 2 (Server 0)
    ∷ Arrive 2 (arrival 3 (pos 2) 2) ∷ Joined 3 Backend
    ∷ Done 10 1 ∷ Freed 1 0 ∷ Ended 1 ∷ Granted 3 Backend 0 ∷ []

-- two servers
abbrev pub by_two : ServerSet → ServerSet → List Entry → History
by_two first second log =
    first_window (record { servers = first ∷ second ∷ []; places = 4; log = 64; retries = 3; redispatch = false; queue_timeout = 0 }) log

-- without limits, of weight 1
abbrev pub open_server : ServerSet
open_server = record { limit = 0; maxqueue = 0; weight = 1; rise_fall = None }

abbrev pub worked_by_two : List Entry → History
worked_by_two = by_two open_server open_server

-- the first server has a request that is pinned to it, and the next one goes there too
abbrev pub more_loaded_server : List Entry
more_loaded_server = Arrive 0 (bound 1 (pos 0) 0) ∷ Direct 1 0 ∷ Arrive 0 (arrival 2 (pos 0) 1) ∷ Direct 2 0 ∷ []

-- of two equal servers the second one is picked first
abbrev pub tie_against_the_cursor : List Entry
tie_against_the_cursor = Arrive 0 (arrival 1 (pos 0) 0) ∷ Direct 1 1 ∷ []

-- the second server has weight 2, each serves one request, and the next one goes to the first server
abbrev pub worked_by_weights : List Entry → History
worked_by_weights = by_two open_server (record open_server { weight = 2 })

abbrev pub loads_without_weights : List Entry
loads_without_weights =
    Arrive 0 (bound 1 (pos 0) 0) ∷ Direct 1 0
    ∷ Arrive 0 (bound_to 1 2 (pos 0) 1) ∷ Direct 2 1
    ∷ Arrive 0 (arrival 3 (pos 0) 2) ∷ Direct 3 0 ∷ []

-- a server that serves one request at once, and in whose own queue five may wait
abbrev pub queueing_server : ServerSet
queueing_server = record { limit = 1; maxqueue = 5; weight = 1; rise_fall = None }

-- each of two such servers serves one request, another one waits in the first one's queue, and the
-- next one joins that queue
abbrev pub worked_by_queues : List Entry → History
worked_by_queues = by_two queueing_server queueing_server

abbrev pub loads_without_queues : List Entry
loads_without_queues =
    Arrive 0 (bound 1 (pos 0) 0) ∷ Direct 1 0
    ∷ Arrive 0 (bound 2 (pos 0) 1) ∷ Joined 2 (Server 0)
    ∷ Arrive 0 (bound_to 1 3 (pos 0) 2) ∷ Direct 3 1
    ∷ Arrive 0 (arrival 4 (pos 0) 3) ∷ Joined 4 (Server 0) ∷ []

-- one server that serves one request at once, and in whose own queue one may wait
abbrev pub worked_by_room : List Entry → History
worked_by_room log =
    first_window (record {
      servers = record { limit = 1; maxqueue = 1; weight = 1; rise_fall = None } ∷ [];
      places = 4;
      log = 64;
      retries = 3;
      redispatch = false;
      queue_timeout = 0;
    }) log

-- a request waits in the backend's queue while the server's own queue has room
abbrev pub waits_beside_room : List Entry
waits_beside_room = Arrive 0 (arrival 1 (pos 0) 0) ∷ Direct 1 0 ∷ Arrive 0 (arrival 2 (pos 0) 1) ∷ Joined 2 Backend ∷ []
