-- A timeout in a table of timeouts: its number there, and how it begins and is stopped for a cell.
use Rattle.std.specs.Prelude.{◌≡◌, ℕ, Option, None, Some, slice_get}
use Rattle.loop_table.specs.Runs.{none_running, begun_once, stopped}
use Rattle.loop_table.specs.Timers.{Timeouts, timed, MayRun, Changes}

-- The timeout of a setting has this number: at that the table has its milliseconds, and it runs for
-- no cell yet, and may for those below a bound. Without a setting it has no number.
abbrev pub IsTimed : Timeouts → ℕ → Option ℕ → Option ℕ → Type 0
IsTimed timers room None number = number ≡ None
IsTimed timers room (Some millis) None = ⊥
IsTimed timers room (Some millis) (Some number) = slice_get timers.timed number ≡ Some (timed millis (none_running room))

-- the timeout with this number begins for a cell, where it may run for that; else nothing changes
abbrev pub Begins : Timeouts → Timeouts → Option ℕ → ℕ → Type 0
Begins old new None cell = new ≡ old
Begins old new (Some number) cell =
    (MayRun old number cell → Changes old new number (λ runs. begun_once runs cell old.clock)) × (¬ (MayRun old number cell) → new ≡ old)

-- it is stopped for a cell
abbrev pub Stops : Timeouts → Timeouts → Option ℕ → ℕ → Type 0
Stops old new None cell = new ≡ old
Stops old new (Some number) cell =
    (MayRun old number cell → Changes old new number (λ runs. stopped runs cell)) × (¬ (MayRun old number cell) → new ≡ old)
