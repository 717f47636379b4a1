-- The part of a log that waits to be read.
use Rattle.std.specs.Prelude.{ℕ, ◌+◌, ◌^◌, ◌-◌, min, List, Option}
use Rattle.log_entries.specs.declared.entry.Entry.{Entry}

-- the entries that wait to be read; how many of them are before the end of a window; where some
-- were lost after them, the number of windows that ended since; the number of entries of the
-- present window that were taken; and the most that may wait
pub record Waiting : Type 0 where
  pub entries : List Entry
  pub end : Option ℕ
  pub lost : Option ℕ
  pub seen : ℕ
  pub room : ℕ

-- a counter that saturates at its greatest value
abbrev pub one_more : ℕ → ℕ
one_more count = min (count + 1) (2 ^ 64 - 1)
