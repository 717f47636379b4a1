-- Worked examples: a log and reports on it.
use Rattle.std.specs.Prelude.{ℕ, ℤ, pos, negsuc, List, [], ◌∷◌, None, Some}
use Rattle.log_entries.specs.declared.entry.Arrival.{Arrival}
use Rattle.log_entries.specs.declared.entry.Entry.{Entry}
use Rattle.log_entries.specs.declared.entry.Entry.TheVariants.{Arrive, Done, Direct, Joined, Granted, Freed, Ended}
use Rattle.log_entries.specs.declared.queue.Queue.TheVariants.{Backend}
use Rattle.log_reading.specs.Windows.{Window}
use Rattle.log_reading.specs.declared.grant.Stay.{Stay}
use Rattle.late_cert.specs.declared.report.Report.{Report}

abbrev pub arrival : ℕ → ℤ → ℕ → Arrival
arrival ticket due place = record { ticket = ticket; class = pos 0; due = due; pin = None; place = place }

-- ticket 3 overtakes ticket 2, which is due later
abbrev pub overtaking_entries : List Entry
overtaking_entries =
    Arrive 0 (arrival 1 (pos 0) 0) ∷ Direct 1 0
    ∷ Arrive 1 (arrival 2 (pos 1) 1) ∷ Joined 2 Backend
    ∷ Arrive 2 (arrival 3 (negsuc 2) 2) ∷ Joined 3 Backend
    ∷ Done 10 1 ∷ Freed 1 0 ∷ Ended 1 ∷ Granted 3 Backend 0
    ∷ Done 20 3 ∷ Freed 3 0 ∷ Ended 3 ∷ Granted 2 Backend 0 ∷ []

abbrev pub overtaking : Window
overtaking = record { base = []; entries = overtaking_entries }

abbrev pub stay_2 : Stay
stay_2 = record { ticket = 2; joined = 4; slot = 14; due = pos 1 }

abbrev pub stay_3 : Stay
stay_3 = record { ticket = 3; joined = 6; slot = 10; due = negsuc 2 }

abbrev pub report : ℤ → ℕ → ℕ → List Stay → Report
report worst after to critical = record { queue = Backend; class = pos 0; granted = 2; worst = worst; due = pos 1; after = after; to = to; critical = critical }

-- the chosen report
abbrev pub chosen : Report
chosen = report (pos 19) 0 14 (stay_3 ∷ stay_2 ∷ [])

-- one of the stays with slots after the cut is missing
abbrev pub one_is_missing : Report
one_is_missing = report (pos 19) 0 14 (stay_3 ∷ [])

-- the stay in the list joined before the cut
abbrev pub joined_before_the_cut : Report
joined_before_the_cut = report (pos 19) 10 14 (stay_2 ∷ [])

-- one stay is later than the worst
abbrev pub worst_is_too_small : Report
worst_is_too_small = report (pos 18) 0 14 (stay_3 ∷ stay_2 ∷ [])

-- the same log in a second window, where tickets 2 and 3 wait since the first one: both stays joined at 0
abbrev pub waited_before : Window
waited_before = record {
  base = record { ticket = 1; class = pos 0; due = pos 0; queue = None }
      ∷ record { ticket = 2; class = pos 0; due = pos 1; queue = Some Backend }
      ∷ record { ticket = 3; class = pos 0; due = negsuc 2; queue = Some Backend } ∷ [];
  entries =
      Done 10 1 ∷ Freed 1 0 ∷ Ended 1 ∷ Granted 3 Backend 0
      ∷ Done 20 3 ∷ Freed 3 0 ∷ Ended 3 ∷ Granted 2 Backend 0 ∷ [];
}

abbrev pub chosen_before : Report
chosen_before = report (pos 19) 0 8 (record { ticket = 3; joined = 0; slot = 4; due = negsuc 2 } ∷ record {
  ticket = 2;
  joined = 0;
  slot = 8;
  due = pos 1;
} ∷ [])

-- a report that says that they joined at positions of the window before
abbrev pub joined_in_the_window_before : Report
joined_in_the_window_before = report (pos 19) 0 8
    (record { ticket = 3; joined = 6; slot = 4; due = negsuc 2 } ∷ record { ticket = 2; joined = 4; slot = 8; due = pos 1 } ∷ [])
