-- A window of a log: the live requests of its base, and the entries since.
use Rattle.std.specs.Prelude.{ℕ, ◌==◌, ◌&&◌, ◌||◌, Bool, false, List, [], ◌∷◌, Option, None, Some, if◌then◌else◌}
use Rattle.std.specs.List.{fold}
use Rattle.std.specs.Option.{option_map_or}
use Rattle.due_key.specs.declared.key.Key.{Key}
use Rattle.log_entries.specs.declared.entry.Entry.{Entry}
use Rattle.log_entries.specs.declared.queue.Queue.{Queue}
use Rattle.log_entries.specs.declared.row.Row.{Row}
use Rattle.log_entries.specs.Histories.{History}
use Rattle.log_entries.specs.Logs.{Recorded}
use Rattle.log_entries.specs.Rows.{Rows, same_queue, queue_in}
use Rattle.log_reading.specs.declared.base.BaseRow.{BaseRow}

pub record Window : Type 0 where
  pub base : List BaseRow
  pub entries : List Entry

-- the part of a row that a base keeps, and that of all rows by rising place
abbrev pub base_row : Row → BaseRow
base_row row = record { ticket = row.key.ticket; class = row.key.class; due = row.key.due; queue = queue_in row.phase }

abbrev pub base_rows : Rows → List BaseRow
base_rows [] = []
base_rows (None ∷ rows) = base_rows rows
base_rows (Some row ∷ rows) = base_row row ∷ base_rows rows

-- the window of a recorded log
abbrev pub window_of : Recorded → Window
window_of log = record { base = base_rows log.base.rows; entries = log.entries }

-- and the window of a history
abbrev pub window_in : History → Window
window_in history = record { base = base_rows history.base.rows; entries = history.log }

-- the key of a ticket in a base
abbrev pub newer_base_key : ℕ → Option Key → BaseRow → Option Key
newer_base_key ticket before row = if row.ticket == ticket then Some (record { class = row.class; due = row.due; ticket = row.ticket }) else before

abbrev pub base_key : ℕ → List BaseRow → Option Key
base_key ticket base = fold (newer_base_key ticket) None base

-- a ticket waits in a queue in a base
abbrev pub waited_in : ℕ → Queue → List BaseRow → Bool
waited_in ticket queue [] = false
waited_in ticket queue (row ∷ rows) = ((row.ticket == ticket) && option_map_or (same_queue queue) row.queue false) || waited_in ticket queue rows
