-- The next step of an end that was asked for.
use Rattle.std.specs.Prelude.{ℕ, Bool, false, ◌&&◌, ◌||◌, nat_le, if◌then◌else◌, Option, Some, None}
use Rattle.run_control.specs.declared.stopping.StopStage.{StopStage}
use Rattle.run_control.specs.declared.stopping.StopStage.TheVariants.{Serves, Stops, Refuses}
use Rattle.run_control.specs.declared.stopping.StopStep.{StopStep}
use Rattle.run_control.specs.declared.stopping.StopStep.TheVariants.{Nothing, Look, Refusals, End}

-- a moment has come, where there is one
abbrev pub has_come : Option ℕ → ℕ → Bool
has_come None now = false
has_come (Some until) now = nat_le until now

-- nothing while the proxy serves; where no new clients come, the end once no client was there at
-- two looks in a row, or else, at its moment, the refusal of waiting requests; after that the end
-- once no client is there, or at its moment
abbrev pub next_stop_step : StopStage → Bool → ℕ → StopStep
next_stop_step Serves is_empty now = Nothing
next_stop_step (Stops until was_empty) is_empty now =
    if was_empty && is_empty then End else if has_come until now then Refusals else Look (Stops until is_empty)
next_stop_step (Refuses until) is_empty now = if is_empty || nat_le until now then End else Look (Refuses until)
