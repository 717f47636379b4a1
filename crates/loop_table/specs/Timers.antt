-- The timeouts of a loop.
use Rattle.std.specs.Prelude.{◌≡◌, ℕ, ◌<◌, ◌≤◌, max, min, List, [], ◌∷◌, ◌++◌, Option, Some, None, slice_get, slice_set, MatchOption, Contains}
use Rattle.std.specs.List.{AllByRecursion}
use Rattle.loop_table.specs.declared.timers.Timer.{Timer}
use Rattle.loop_table.specs.Runs.{Run, Runs, left, NoneOverdue, IsFirstOverdue}

-- each timeout with its milliseconds, and the present moment of all of them
pub record Timeouts : Type 0 where
  pub timed : List Timer
  pub clock : ℕ

abbrev pub none_timed : Timeouts
none_timed = record { timed = []; clock = 0 }

abbrev pub timed : ℕ → Runs → Timer
timed timeout running = record { timeout = timeout; running = running }

abbrev pub with_timed : Timeouts → Timer → Timeouts
with_timed it timed = record { timed = it.timed ++ timed ∷ []; clock = it.clock }

abbrev pub later_at : Timeouts → ℕ → Timeouts
later_at it now = record { timed = it.timed; clock = max it.clock now }

-- a keyword's timeout
abbrev pub IsTimeoutOf : Timeouts → ℕ → Timer → Type 0
IsTimeoutOf it keyword timed = slice_get it.timed keyword ≡ Some timed

-- the runs of one keyword's timeout change, and nothing else
pub record Changes (old new : Timeouts) (keyword : ℕ) (after : Runs → Runs) : Type 0 where
  pub timed : Timer
  pub there : IsTimeoutOf old keyword timed
  pub is : new ≡ record { timed = slice_set old.timed keyword (record { timeout = timed.timeout; running = after timed.running }); clock = old.clock }

-- it may run for a cell
pub record MayRun (it : Timeouts) (keyword cell : ℕ) : Type 0 where
  pub timed : Timer
  pub there : IsTimeoutOf it keyword timed
  pub low : cell < timed.running.room

-- no timeout has expired
abbrev pub AreQuiet : ℕ → List Timer → Type 0
AreQuiet now all = AllByRecursion (λ timed. NoneOverdue timed.timeout now timed.running.runs) all

pub record IsOverdueAt (it : Timeouts) (keyword cell : ℕ) : Type 0 where
  pub timed : Timer
  pub there : IsTimeoutOf it keyword timed
  pub first : IsFirstOverdue timed.timeout it.clock timed.running.runs cell

-- nothing expires before this number of milliseconds has passed, and something does then
pub record IsPatience (now : ℕ) (all : List Timer) (millis : ℕ) : Type 0 where
  pub least : AllByRecursion (λ timed. AllByRecursion (λ run. millis ≤ left timed.timeout now run) timed.running.runs) all
  pub timed : Timer
  pub in_all : Contains all timed
  pub run : Run
  pub among : Contains timed.running.runs run
  pub is : millis ≡ left timed.timeout now run

abbrev pub ArePatient : ℕ → List Timer → Option ℕ → Type 0
ArePatient now all patience = MatchOption patience (AllByRecursion (λ timed. timed.running.runs ≡ []) all) (λ millis. IsPatience now all millis)

abbrev pub sooner_of : Option ℕ → Option ℕ → Option ℕ
sooner_of None other = other
sooner_of (Some x) None = Some x
sooner_of (Some x) (Some y) = Some (min x y)
