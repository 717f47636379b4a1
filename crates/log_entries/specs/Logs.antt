-- The content of a log.
use Rattle.std.specs.Prelude.{ℕ, List}
use Rattle.log_entries.specs.declared.entry.Entry.{Entry}
use Rattle.log_entries.specs.States.{State}

-- the state in which its window began, the entries since in order, and the most entries that it has room for
pub record Recorded : Type 0 where
  pub base : State
  pub entries : List Entry
  pub room : ℕ
