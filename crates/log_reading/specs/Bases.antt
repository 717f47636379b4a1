-- The check results in a base.
use Rattle.std.specs.Prelude.{Bool, true, false, List, [], ◌++◌, Option, None, Some, replicate, if◌then◌else◌}
use Rattle.check_state.specs.Standing.{Standing}

-- the shortest results with this health; none for a server without a health
abbrev pub results_by : Option Standing → List Bool
results_by None = []
results_by (Some health) = if health.up then replicate health.against false else (replicate health.fall false ++ replicate health.against true)
