-- Runs of dispatchers: any calls in any order.
use Rattle.std.specs.Prelude.{◌≡◌, ◌⊎◌, List, [], ◌∷◌}
use Rattle.log_entries.specs.declared.entry.Entry.{Entry}
use Rattle.log_entries.specs.declared.setup.Setup.{Setup}
use Rattle.log_entries.specs.Histories.{History, first_window, next_window}
use Rattle.log_entries.specs.Legal.{AddsEvent}
use Rattle.log_entries.specs.Setups.{IsSound}

-- a call of a dispatcher: an event, or the beginning of the next window
pub data Call : Type 0 where
  event : Entry → Call
  roll : Call

-- what a call does: an event is added with the entries that follow from it, or is refused and changes nothing
abbrev pub GoesOnBy : Call → History → History → Type 0
GoesOnBy (event entry) old new = AddsEvent old new entry ⊎ (new ≡ old)
GoesOnBy roll old new = new ≡ next_window old

-- a history goes on by these calls, one after the other
abbrev pub GoesBy : List Call → History → History → Type 0
GoesBy [] old new = new ≡ old
GoesBy (call ∷ calls) old new = (next : History) × GoesOnBy call old next × GoesBy calls next new

-- a run: a dispatcher is made for a sound setup, and these calls are made
abbrev pub IsRun : Setup → List Call → History → Type 0
IsRun setup calls history = IsSound setup × GoesBy calls (first_window setup []) history
