-- What is kept while a log is read from its end.
use Rattle.std.specs.Prelude.{◌≡◌, ℕ, List, Option, reverse}
use Rattle.log_entries.specs.declared.entry.Entry.{Entry}
use Rattle.log_stretches.specs.declared.stretch.Stretch.{Stretch}
use Rattle.log_stretches.specs.Stretches.{placed_after, stretches_after}

-- for entries that follow `count` others: where each ticket is placed first, and their stretches,
-- the last one first
pub record AreReadBack (count : ℕ) (later : List Entry) (placed : ℕ → Option ℕ) (listed : List Stretch) : Type 0 where
  pub next : (ticket : ℕ) → placed ticket ≡ placed_after count later ticket
  pub stretches : reverse listed ≡ stretches_after count later
