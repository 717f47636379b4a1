-- Worked examples of logs with servers that are closed and opened: some are legal, and the others
-- are not, each for one reason.
use Rattle.std.specs.Prelude.{pos, List, [], ◌∷◌, ◌++◌}
use Rattle.base_verdict.specs.declared.cause.Cause.TheVariants.{NoServer}
use Rattle.log_entries.specs.declared.allowance.Intake.TheVariants.{Open, Closed}
use Rattle.log_entries.specs.declared.entry.Entry.{Entry}
use Rattle.log_entries.specs.declared.entry.Entry.TheVariants.{Arrive, Done, Limit, Direct, Joined, Granted, Moved, Freed, Left, Ended}
use Rattle.log_entries.specs.declared.queue.Queue.TheVariants.{Backend, Server}
use Rattle.log_entries.specs.Worked.{arrival, bound}
use Rattle.log_entries.specs.WorkedChanges.{two_are_bound}
use Rattle.log_entries.specs.WorkedWindows.{two_are_served}

-- the server is closed, and 1 ends: 2 is still served, and 3 waits on
abbrev pub closed_server_serves_on : List Entry
closed_server_serves_on = two_are_served ++ Limit 3 0 Closed ∷ Done 4 1 ∷ Freed 1 0 ∷ Ended 1 ∷ []

-- the server is closed and opened with limit 3, and 3 takes the new slot
abbrev pub opened_server_grants : List Entry
opened_server_grants = two_are_served ++ Limit 3 0 Closed ∷ Limit 4 0 (Open 3) ∷ Granted 3 Backend 0 ∷ []

-- the only server is closed, and a request waits
abbrev pub waits_for_an_opening : List Entry
waits_for_an_opening = Limit 0 0 Closed ∷ Arrive 1 (arrival 1 (pos 1) 0) ∷ Joined 1 Backend ∷ []

-- a request that is pinned to a closed server goes to the other one
abbrev pub pin_to_a_closed_server_is_ignored : List Entry
pin_to_a_closed_server_is_ignored = Limit 0 0 Closed ∷ Arrive 0 (bound 1 (pos 0) 0) ∷ Direct 1 1 ∷ []

-- the first server is closed, and 2, which waits for it, is moved and served by the other one
abbrev pub closing_moves_its_queue : List Entry
closing_moves_its_queue =
    Arrive 0 (bound 1 (pos 0) 0) ∷ Direct 1 0
    ∷ Arrive 1 (bound 2 (pos 1) 1) ∷ Joined 2 (Server 0)
    ∷ Limit 2 0 Closed ∷ Moved 2 0 ∷ Granted 2 Backend 1 ∷ []

-- the server is closed, 1 ends, and 3 is served
abbrev pub grant_at_a_closed_server : List Entry
grant_at_a_closed_server = two_are_served ++ Limit 3 0 Closed ∷ Done 4 1 ∷ Freed 1 0 ∷ Ended 1 ∷ Granted 3 Backend 0 ∷ []

-- the server is closed, and the slot of 1 is freed
abbrev pub closing_stops_a_request : List Entry
closing_stops_a_request = two_are_served ++ Limit 3 0 Closed ∷ Freed 1 0 ∷ Ended 1 ∷ []

-- the server is closed and opened with limit 3, and the new slot stays idle
abbrev pub opened_server_grants_nothing : List Entry
opened_server_grants_nothing = two_are_served ++ Limit 3 0 Closed ∷ Limit 4 0 (Open 3) ∷ []

-- a request that is pinned to a closed server waits for it
abbrev pub waits_for_a_closed_server : List Entry
waits_for_a_closed_server = Limit 1 0 Closed ∷ Arrive 2 (bound 1 (pos 2) 0) ∷ Joined 1 (Server 0) ∷ []

-- balancing puts a request into the queue of a closed server
abbrev pub balanced_to_a_closed_server : List Entry
balanced_to_a_closed_server = Limit 0 0 Closed ∷ Arrive 1 (arrival 1 (pos 1) 0) ∷ Joined 1 (Server 0) ∷ []

-- a request is told that no server is usable, though the only server is just closed
abbrev pub no_server_beside_a_closed_one : List Entry
no_server_beside_a_closed_one = Limit 0 0 Closed ∷ Arrive 1 (arrival 1 (pos 1) 0) ∷ Left 1 NoServer ∷ []

-- the first server is closed under `redispatch`, and the requests in its queue stay there
abbrev pub closing_leaves_its_queue : List Entry
closing_leaves_its_queue = two_are_bound ++ Limit 3 0 Closed ∷ []

-- the server is closed without `redispatch`, and 2, which waits for it, is moved
abbrev pub closing_moves_without_redispatch : List Entry
closing_moves_without_redispatch =
    Arrive 0 (bound 1 (pos 0) 0) ∷ Direct 1 0
    ∷ Arrive 1 (bound 2 (pos 1) 1) ∷ Joined 2 (Server 0)
    ∷ Limit 2 0 Closed ∷ Moved 2 0 ∷ []
