-- A dispatcher beside the worst so far of each queue and class.
use Rattle.std.specs.Prelude.{◌≡◌, ℕ, ℤ, IsTrue, None, length, List}
use Rattle.std.specs.List.{AllByRecursion}
use Rattle.std.specs.Option.{IfSome}
use Rattle.log_entries.specs.declared.entry.Entry.{Entry}
use Rattle.log_entries.specs.declared.queue.Queue.{Queue}
use Rattle.log_entries.specs.Histories.{History}
use Rattle.log_reading.specs.declared.base.BaseRow.{BaseRow}
use Rattle.log_reading.specs.Grants.{arrival_in, grants}
use Rattle.log_reading.specs.Windows.{window_in, base_rows}
use Rattle.late_cert.specs.Running.{has_class_room, worst_so_far, IsWorstAmong}
use Rattle.late_cert.specs.declared.table.Running.{Running}

-- an empty running worst for the queues of this many servers
pub record IsNew (running : Running) (servers : ℕ) : Type 0 where
  pub queues : running.servers ≡ servers
  pub none : (queue : Queue) (class : ℤ) → worst_so_far running queue class ≡ None

-- a fact holds of the class of each request of a window, at its base or arrived since
pub record HaveClasses (P : ℤ → Type 0) (base : List BaseRow) (log : List Entry) : Type 0 where
  pub waited : AllByRecursion (λ row. P row.class) base
  pub arrived : AllByRecursion (λ entry. IfSome (arrival_in entry) (λ arrival. P arrival.class)) log

-- the worst so far is that of the window's grants, and there is room for the class of each of its requests
pub record IsReporting (history : History) (running : Running) : Type 0 where
  pub queues : running.servers ≡ length history.setup.servers
  pub worst : IsWorstAmong (grants (window_in history)) running
  pub room : HaveClasses (λ class. IsTrue (has_class_room running class)) (base_rows history.base.rows) history.log
