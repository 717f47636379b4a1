-- Worked examples of legal logs.
use Rattle.std.specs.Prelude.{pos, false, List, [], ◌∷◌, ◌++◌}
use Rattle.base_verdict.specs.declared.cause.Cause.TheVariants.{Timeout}
use Rattle.log_entries.specs.declared.entry.Entry.{Entry}
use Rattle.log_entries.specs.declared.entry.Entry.TheVariants.{Arrive, Fail, Tick, Check, Direct, Joined, Granted, Moved, Freed, Left, Health}
use Rattle.log_entries.specs.declared.queue.Queue.TheVariants.{Backend, Server}
use Rattle.log_entries.specs.Worked.{bound, two_wait}

-- the connection of 1 fails, and the one retry goes to the other server
abbrev pub redispatch_to_the_other_server : List Entry
redispatch_to_the_other_server = Arrive 0 (bound 1 (pos 0) 0) ∷ Direct 1 0 ∷ Fail 1 1 ∷ Freed 1 0 ∷ Direct 1 1 ∷ []

-- 2 and 3 waited for 5 milliseconds and longer, and are told by rising ticket
abbrev pub told_by_rising_ticket : List Entry
told_by_rising_ticket = two_wait ++ Tick 7 ∷ Left 2 Timeout ∷ Left 3 Timeout ∷ []

-- the first server goes down, and 2, which waits for it, is moved and served by the other one
abbrev pub fall_moves_its_queue : List Entry
fall_moves_its_queue =
    Arrive 0 (bound 1 (pos 0) 0) ∷ Direct 1 0
    ∷ Arrive 1 (bound 2 (pos 1) 1) ∷ Joined 2 (Server 0)
    ∷ Check 2 0 false ∷ Health 0 false ∷ Moved 2 0 ∷ Granted 2 Backend 1 ∷ []
