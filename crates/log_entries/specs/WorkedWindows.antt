-- Worked examples of logs with changing limits and consecutive windows: three are legal, and the
-- others are not, each for one reason.
use Rattle.std.specs.Prelude.{pos, List, [], ◌∷◌, ◌++◌, None, Some, false}
use Rattle.log_entries.specs.declared.allowance.Intake.TheVariants.{Open}
use Rattle.log_entries.specs.declared.entry.Entry.{Entry}
use Rattle.log_entries.specs.declared.entry.Entry.TheVariants.{Arrive, Done, Limit, Direct, Joined, Granted, Freed, Ended}
use Rattle.log_entries.specs.declared.queue.Queue.TheVariants.{Backend}
use Rattle.log_entries.specs.declared.row.Phase.TheVariants.{Waiting}
use Rattle.log_entries.specs.declared.row.Row.{Row}
use Rattle.log_entries.specs.declared.setup.ServerSet.{ServerSet}
use Rattle.log_entries.specs.Histories.{History, first_window, next_window}
use Rattle.log_entries.specs.Rows.{changed}
use Rattle.log_entries.specs.Worked.{arrival, two_wait, worked, worked_by_two, worked_setup}

-- one server that may serve two requests at once
abbrev pub pair_server : ServerSet
pair_server = record { limit = 2; maxqueue = 0; weight = 1; rise_fall = None }

abbrev pub worked_by_pairs : List Entry → History
worked_by_pairs log =
    first_window (record { servers = pair_server ∷ []; places = 4; log = 64; retries = 3; redispatch = false; queue_timeout = 0 }) log

-- tickets 1 and 2 are served, and 3 waits
abbrev pub two_are_served : List Entry
two_are_served =
    Arrive 0 (arrival 1 (pos 0) 0) ∷ Direct 1 0
    ∷ Arrive 0 (arrival 2 (pos 0) 1) ∷ Direct 2 0
    ∷ Arrive 1 (arrival 3 (pos 1) 2) ∷ Joined 3 Backend ∷ []

-- the limit is raised to 3, and 3 takes the new slot
abbrev pub raised_limit_grants : List Entry
raised_limit_grants = two_are_served ++ Limit 3 0 (Open 3) ∷ Granted 3 Backend 0 ∷ []

-- the limit is lowered to 1, and 1 ends: 2 is still served, and 3 waits on
abbrev pub lowered_limit_is_reached : List Entry
lowered_limit_is_reached = two_are_served ++ Limit 3 0 (Open 1) ∷ Done 4 1 ∷ Freed 1 0 ∷ Ended 1 ∷ []

-- the limit is lowered to 1, and 1 ends: 2 is still served, and 3 is served beside it
abbrev pub grant_at_the_lowered_limit : List Entry
grant_at_the_lowered_limit = two_are_served ++ Limit 3 0 (Open 1) ∷ Done 4 1 ∷ Freed 1 0 ∷ Ended 1 ∷ Granted 3 Backend 0 ∷ []

-- the limit is raised to 3, and the new slot stays idle
abbrev pub raised_limit_grants_nothing : List Entry
raised_limit_grants_nothing = two_are_served ++ Limit 3 0 (Open 3) ∷ []

-- the limit of a server that doesn't exist
abbrev pub limit_of_no_server : List Entry
limit_of_no_server = two_are_served ++ Limit 3 1 (Open 3) ∷ []

-- a second window with its own log, after a first one
abbrev pub windows : History → List Entry → History
windows first log = record (next_window first) { log = log }

-- 2 and 3 wait since the window before, and the freed slot goes to 3, which is due first
abbrev pub waits_of_the_base_are_served : History
waits_of_the_base_are_served = windows (worked two_wait) (Done 10 1 ∷ Freed 1 0 ∷ Ended 1 ∷ Granted 3 Backend 0 ∷ [])

-- a window that begins while 2 and 3 wait, with one change to the row of 3
abbrev pub begins_with_another : (Row → Row) → History
begins_with_another change = record {
  setup = worked_setup;
  base = record (next_window (worked two_wait)).base { rows = changed 3 (λ row. Some (change row)) (next_window (worked two_wait)).base.rows };
  log = [];
}

-- 3 has a class above the highest one
abbrev pub class_of_the_base_is_out_of_range : History
class_of_the_base_is_out_of_range = begins_with_another (λ row. record row { key = record row.key { class = pos 2048 } })

-- 3 has a due date that is later than now plus any offset
abbrev pub due_date_of_the_base_is_too_late : History
due_date_of_the_base_is_too_late = begins_with_another (λ row. record row { key = record row.key { due = pos 524290 } })

-- 3 waits since a moment in the future
abbrev pub wait_of_the_base_is_to_come : History
wait_of_the_base_is_to_come = begins_with_another (λ row. record row { phase = Waiting Backend 3 })

-- 3 waits since the window before, and the freed slot stays idle
abbrev pub waits_of_the_base_are_forgotten : History
waits_of_the_base_are_forgotten = windows (worked two_wait) (Done 10 1 ∷ Freed 1 0 ∷ Ended 1 ∷ [])

-- ticket 1 went to the first server in the window before; the first one of the equal servers is picked again
abbrev pub cursor_is_reset : History
cursor_is_reset =
    windows (worked_by_two (Arrive 0 (arrival 1 (pos 0) 0) ∷ Direct 1 0 ∷ Done 4 1 ∷ Freed 1 0 ∷ Ended 1 ∷ []))
    (Arrive 5 (arrival 2 (pos 5) 0) ∷ Direct 2 0 ∷ [])

-- the tickets begin at 1 again
abbrev pub tickets_begin_anew : History
tickets_begin_anew =
    windows (worked_by_two (Arrive 0 (arrival 1 (pos 0) 0) ∷ Direct 1 0 ∷ Done 4 1 ∷ Freed 1 0 ∷ Ended 1 ∷ []))
    (Arrive 5 (arrival 1 (pos 5) 0) ∷ Direct 1 1 ∷ [])
