-- Worked examples of logs with failures, timeouts, aborts and checks. None is legal, each for one reason.
use Rattle.std.specs.Prelude.{pos, negsuc, true, false, List, [], ◌∷◌, ◌++◌, Some}
use Rattle.base_verdict.specs.declared.cause.Cause.TheVariants.{Aborted, Timeout, NoServer}
use Rattle.log_entries.specs.declared.entry.Entry.{Entry}
use Rattle.log_entries.specs.declared.entry.Entry.TheVariants.{Arrive, Done, Fail, Abort, Tick, Check, Direct, Joined}
use Rattle.log_entries.specs.declared.entry.Entry.TheVariants.{Granted, Moved, Freed, Retried, Left, Health, Ended}
use Rattle.log_entries.specs.declared.queue.Queue.TheVariants.{Backend, Server}
use Rattle.log_entries.specs.declared.setup.ServerSet.{ServerSet}
use Rattle.log_entries.specs.Histories.{History, first_window}
use Rattle.log_entries.specs.Worked.{plain_server, arrival, bound, two_wait}

-- a server that each check result takes down or brings up
abbrev pub checked_server : ServerSet
checked_server = record { limit = 1; maxqueue = 0; weight = 1; rise_fall = Some (1, 1) }

-- two servers, the first one checked; the one retry goes to another server
abbrev pub worked_with_checks : List Entry → History
worked_with_checks log =
    first_window (record { servers = checked_server ∷ plain_server ∷ []; places = 4; log = 64; retries = 1; redispatch = true; queue_timeout = 0 }) log

-- one server; requests wait for 5 milliseconds
abbrev pub worked_in_time : List Entry → History
worked_in_time log =
    first_window (record { servers = plain_server ∷ []; places = 4; log = 64; retries = 3; redispatch = false; queue_timeout = 5 }) log

-- ticket 1 is served by the first server; 2 and 3 wait in its queue, and 3 is due first
abbrev pub two_are_bound : List Entry
two_are_bound =
    Arrive 0 (bound 1 (pos 0) 0) ∷ Direct 1 0
    ∷ Arrive 1 (bound 2 (pos 1) 1) ∷ Joined 2 (Server 0)
    ∷ Arrive 2 (bound 3 (negsuc 2) 2) ∷ Joined 3 (Server 0) ∷ []

-- a fourth retry where three are allowed
abbrev pub retry_past_the_retries : List Entry
retry_past_the_retries =
    Arrive 0 (arrival 1 (pos 0) 0) ∷ Direct 1 0
    ∷ Fail 1 1 ∷ Retried 1 0 1 ∷ Fail 2 1 ∷ Retried 1 0 2 ∷ Fail 3 1 ∷ Retried 1 0 3 ∷ Fail 4 1 ∷ Retried 1 0 4 ∷ []

-- the first failure counts as the second
abbrev pub failure_counted_twice : List Entry
failure_counted_twice = Arrive 0 (arrival 1 (pos 0) 0) ∷ Direct 1 0 ∷ Fail 1 1 ∷ Retried 1 0 2 ∷ []

-- request 1 is redispatched, and waits for its pinned server while the other one is free
abbrev pub redispatch_keeps_the_pin : List Entry
redispatch_keeps_the_pin = two_are_bound ++ Fail 3 1 ∷ Freed 1 0 ∷ Granted 3 (Server 0) 0 ∷ Joined 1 (Server 0) ∷ []

-- request 1 is redispatched to the server that failed, which would be picked next, though the other one has room
abbrev pub redispatch_to_the_failed_server : List Entry
redispatch_to_the_failed_server = Arrive 0 (bound 1 (pos 0) 0) ∷ Direct 1 0 ∷ Fail 1 1 ∷ Freed 1 0 ∷ Direct 1 0 ∷ []

-- a slot of the first server is freed, and before it is granted to 3, the redispatched request
-- takes one of the second server
abbrev pub redispatch_before_the_grant : List Entry
redispatch_before_the_grant = two_are_bound ++ Fail 3 1 ∷ Freed 1 0 ∷ Direct 1 1 ∷ Granted 3 (Server 0) 0 ∷ []

-- one server; the one retry goes to another server where there is one
abbrev pub worked_with_a_retry : List Entry → History
worked_with_a_retry log =
    first_window (record { servers = plain_server ∷ []; places = 4; log = 64; retries = 1; redispatch = true; queue_timeout = 0 }) log

-- request 1 is due at 0, 2 at 5 and 3 at 8; 1 fails at 10, and waits again while 2 is served; then a slot is freed
abbrev pub one_waits_anew : List Entry
one_waits_anew =
    Arrive 0 (arrival 1 (pos 0) 0) ∷ Direct 1 0
    ∷ Arrive 0 (arrival 2 (pos 5) 1) ∷ Joined 2 Backend
    ∷ Arrive 0 (arrival 3 (pos 8) 2) ∷ Joined 3 Backend
    ∷ Fail 10 1 ∷ Freed 1 0 ∷ Granted 2 Backend 0 ∷ Joined 1 Backend
    ∷ Done 20 2 ∷ Freed 2 0 ∷ Ended 2 ∷ []

-- the slot goes to 3, as if the failure gave 1 a new due date
abbrev pub redispatched_by_a_new_due_date : List Entry
redispatched_by_a_new_due_date = one_waits_anew ++ Granted 3 Backend 0 ∷ []

-- a request is told that no server is usable, though one is
abbrev pub no_server_beside_a_usable_one : List Entry
no_server_beside_a_usable_one = Arrive 0 (arrival 1 (pos 0) 0) ∷ Left 1 NoServer ∷ []

-- request 2 waits since 1, and is told at 5 that it waited too long
abbrev pub told_one_millisecond_early : List Entry
told_one_millisecond_early = two_wait ++ Tick 5 ∷ Left 2 Timeout ∷ []

-- 2 and 3 waited too long, and 3 is told first
abbrev pub told_by_falling_ticket : List Entry
told_by_falling_ticket = two_wait ++ Tick 20 ∷ Left 3 Timeout ∷ Left 2 Timeout ∷ []

-- 2 and 3 waited too long, and only 2 is told
abbrev pub expired_and_not_told : List Entry
expired_and_not_told = two_wait ++ Tick 20 ∷ Left 2 Timeout ∷ []

-- an abort of a request that is served; no other request waits for its slot
abbrev pub abort_of_a_served_request : List Entry
abort_of_a_served_request = Arrive 0 (arrival 1 (pos 0) 0) ∷ Direct 1 0 ∷ Abort 3 1 ∷ Left 1 Aborted ∷ []

-- a failure of a request that waits; such a log always breaks another rule too, since whatever
-- follows a failure speaks of the request's slot, and this one has none
abbrev pub failure_of_a_waiting_request : List Entry
failure_of_a_waiting_request = two_wait ++ Fail 3 2 ∷ Retried 2 0 1 ∷ []

-- the first server goes down, and its queue stays
abbrev pub fall_leaves_its_queue : List Entry
fall_leaves_its_queue = two_are_bound ++ Check 3 0 false ∷ Health 0 false ∷ []

-- 2 is moved before 3
abbrev pub moves_by_ticket : List Entry
moves_by_ticket = two_are_bound ++ Check 3 0 false ∷ Health 0 false ∷ Moved 2 0 ∷ Moved 3 0 ∷ Granted 3 Backend 1 ∷ []

-- a slot is granted to 3 before 2 is moved
abbrev pub grant_before_the_moves : List Entry
grant_before_the_moves = two_are_bound ++ Check 3 0 false ∷ Health 0 false ∷ Moved 3 0 ∷ Granted 3 Backend 1 ∷ []

-- the first server goes down, 2 is moved, and the slot of the other server stays idle
abbrev pub fall_grants_nothing : List Entry
fall_grants_nothing =
    Arrive 0 (bound 1 (pos 0) 0) ∷ Direct 1 0
    ∷ Arrive 1 (bound 2 (pos 1) 1) ∷ Joined 2 (Server 0)
    ∷ Check 2 0 false ∷ Health 0 false ∷ Moved 2 0 ∷ []

-- both servers serve one request, 3 waits for the first server, and is moved though that server never went down
abbrev pub moved_without_a_fall : List Entry
moved_without_a_fall =
    Arrive 0 (bound 1 (pos 0) 0) ∷ Direct 1 0
    ∷ Arrive 0 (arrival 2 (pos 0) 1) ∷ Direct 2 1
    ∷ Arrive 1 (bound 3 (pos 1) 2) ∷ Joined 3 (Server 0)
    ∷ Moved 3 0 ∷ []

-- the first server is down, 1 is served by the second and 2 waits in the backend's queue; then a
-- check of the first server succeeds
abbrev pub first_server_answers : List Entry
first_server_answers =
    Check 1 0 false ∷ Health 0 false
    ∷ Arrive 2 (arrival 1 (pos 2) 0) ∷ Direct 1 1
    ∷ Arrive 3 (arrival 2 (pos 3) 1) ∷ Joined 2 Backend
    ∷ Check 4 0 true ∷ []

-- the first server goes up, and its slot stays idle
abbrev pub rise_grants_nothing : List Entry
rise_grants_nothing = first_server_answers ++ Health 0 true ∷ []

-- the first server goes up, and no entry says so
abbrev pub rise_is_not_told : List Entry
rise_is_not_told = first_server_answers ++ Granted 2 Backend 0 ∷ []

-- the first server goes down and passes a check again, and no entry says that it is up
abbrev pub down_after_its_rise : List Entry
down_after_its_rise = Check 1 0 false ∷ Health 0 false ∷ Check 4 0 true ∷ []

-- the first server passes a check, and an entry says that it is down
abbrev pub down_though_it_answers : List Entry
down_though_it_answers = Check 1 0 true ∷ Health 0 false ∷ []

-- a request is served by a server that is down
abbrev pub served_by_a_fallen_server : List Entry
served_by_a_fallen_server = Check 1 0 false ∷ Health 0 false ∷ Arrive 2 (bound 1 (pos 2) 0) ∷ Direct 1 0 ∷ []
