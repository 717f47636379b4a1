-- The entries of the log that wait to be read, beside a desk's book.
use Rattle.std.specs.Prelude.{◌≡◌, ◌≤◌, ◌<◌, ◌+◌, ◌++◌, ℕ, List, [], length, drop, vec_capacity, Option, None, Some, IsSome}
use Rattle.std.specs.Option.{option_map}
use Rattle.log_entries.specs.declared.entry.Entry.{Entry}
use Rattle.log_reading.specs.Tails.{Waiting, one_more}
use Rattle.log_reading.specs.declared.tail.Batch.{Batch}
use Rattle.grant_board.specs.Views.{Terms}
use Rattle.log_entries.specs.declared.setup.Setup.{Setup}
use Rattle.locked_book.specs.Calls.{Booked}
use Rattle.shared_desk.specs.Replies.{IsHeld}

-- The entries of this log beyond those that were taken wait too. Where there is no room for all of
-- them they are lost, as they are where some were lost before.
pub record HasCaughtUp (log : List Entry) (old new : Waiting) : Type 0 where
  pub seen : new.seen ≡ length log
  pub fits : old.lost ≡ None → length old.entries + length (drop old.seen log) ≤ old.room
      → (new.entries ≡ old.entries ++ drop old.seen log) × (new.lost ≡ None)
  pub full : old.lost ≡ None → old.room < length old.entries + length (drop old.seen log) → (new.entries ≡ old.entries) × (new.lost ≡ Some 0)
  pub lost : IsSome old.lost → (new.entries ≡ old.entries) × (new.lost ≡ old.lost)
  pub same : (new.end ≡ old.end) × (new.room ≡ old.room)

-- The end of a window is noted behind the entries that wait. Where an earlier end isn't read yet, or
-- entries were lost, it is counted among the ends that are lost.
pub record HasNotedEnd (old new : Waiting) : Type 0 where
  pub seen : new.seen ≡ 0
  pub first : old.lost ≡ None → old.end ≡ None → (new.end ≡ Some (length old.entries)) × (new.lost ≡ None)
  pub second : old.lost ≡ None → IsSome old.end → (new.end ≡ old.end) × (new.lost ≡ Some 1)
  pub lost : IsSome old.lost → (new.end ≡ old.end) × (new.lost ≡ option_map one_more old.lost)
  pub same : (new.entries ≡ old.entries) × (new.room ≡ old.room)

-- nothing waits of a window without an entry, and there is room for this number of entries
abbrev pub nothing_waits : ℕ → Waiting
nothing_waits room = record { entries = []; end = None; lost = None; seen = 0; room = room }

-- a relation of the entries that wait, where a reader follows the log; where none does nothing waits
abbrev pub WhereFollowed : (Waiting → Waiting → Type 0) → Option Waiting → Option Waiting → Type 0
WhereFollowed goes None None = Unit {0}
WhereFollowed goes None (Some new) = ⊥
WhereFollowed goes (Some old) None = ⊥
WhereFollowed goes (Some old) (Some new) = goes old new

-- the whole log of a window that ended was kept, and then its end
abbrev pub HasKept : List Entry → Waiting → Waiting → Type 0
HasKept log old new = (between : Waiting) × HasCaughtUp log old between × HasNotedEnd between new

-- All that waited is in the batch, and nothing waits any more, where the batch has room for as many
-- entries as may wait; else the batch is empty. It has room for the next read as it had for this one.
pub record IsTakenFrom (waiting : Waiting) (capacity : ℕ) (left : Waiting) (batch : Batch) : Type 0 where
  pub all : waiting.room ≤ capacity
      → (batch.entries.items ≡ waiting.entries) × (batch.end ≡ waiting.end) × (batch.lost ≡ waiting.lost)
      × (left.entries ≡ []) × (left.end ≡ None) × (left.lost ≡ None) × (left.seen ≡ waiting.seen) × (left.room ≡ waiting.room)
      × (left.room ≤ vec_capacity batch.entries)
  pub small : capacity < waiting.room
      → (left ≡ waiting) × (batch.entries.items ≡ []) × (batch.end ≡ None) × (batch.lost ≡ None) × (vec_capacity batch.entries ≡ capacity)

-- What waited, with the entries that weren't taken yet of the log that the lock held, is in the batch,
-- which had this much room; where no reader follows the log it isn't looked at, and the batch is empty and
-- has that room.
abbrev pub ReadsNew : Terms → Setup → ℕ → Option Waiting → Option Waiting → Option Booked → Batch → Type 0
ReadsNew terms setup room None None seen batch =
    (seen ≡ None) × (batch.entries.items ≡ []) × (batch.end ≡ None) × (batch.lost ≡ None) × (vec_capacity batch.entries ≡ room)
ReadsNew terms setup room None (Some new) seen batch = ⊥
ReadsNew terms setup room (Some old) None seen batch = ⊥
ReadsNew terms setup room (Some old) (Some new) None batch = ⊥
ReadsNew terms setup room (Some old) (Some new) (Some seen) batch =
    IsHeld terms setup seen
    × ((waiting : Waiting) × HasCaughtUp seen.history.log old waiting × IsTakenFrom waiting room new batch)
