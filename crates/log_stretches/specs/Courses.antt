-- The facts of a log, in order.
use Rattle.std.specs.Prelude.{◌≡◌, ℕ, ◌+◌, ◌<◌, ◌==◌, List, Option, None, Some, length, slice_index, if◌then◌else◌}
use Rattle.std.specs.List.{fold}
use Rattle.std.specs.Option.{unwrap_or}
use Rattle.log_entries.specs.declared.entry.Entry.{Entry}
use Rattle.log_entries.specs.declared.entry.Entry.TheVariants.{Arrive}
use Rattle.log_reading.specs.Grants.{moment_in, moment_at}
use Rattle.log_stretches.specs.declared.course.Came.{Came}
use Rattle.log_stretches.specs.declared.stretch.Stretch.{Stretch}
use Rattle.log_stretches.specs.Stretches.{stretches_of}

-- the moment of an event; for another entry that of the last event
abbrev pub later : Entry → ℕ → ℕ
later entry last = unwrap_or (moment_in entry) last

-- the moment of each entry: that of its event
pub record AreMoments (log : List Entry) (moments : List ℕ) : Type 0 where
  pub each : length moments ≡ length log
  pub at : (number : ℕ) → number < length log → slice_index moments number ≡ moment_at log (number + 1)

-- the arrival of a ticket, where the entry is it, or else as before
abbrev pub newer_came : ℕ → Option Came → Entry → Option Came
newer_came ticket before (Arrive moment arrival) = if arrival.ticket == ticket then Some (record { moment = moment; arrival = arrival }) else before
newer_came ticket before entry = before

-- the last arrival of a ticket; none where it didn't arrive
abbrev pub came_in : List Entry → ℕ → Option Came
came_in log ticket = fold (newer_came ticket) None log

-- the moments, the arrivals and the stretches of a log
pub record IsCourse (log : List Entry) (moments : List ℕ) (came : ℕ → Option Came) (stretches : List Stretch) : Type 0 where
  pub timed : AreMoments log moments
  pub arrived : (ticket : ℕ) → came ticket ≡ came_in log ticket
  pub stretched : stretches ≡ stretches_of log
