-- The shortest list of results that has the same effect as a longer one.
use Rattle.std.specs.Prelude.{ℕ, Bool, true, false, List, ◌++◌, replicate, if◌then◌else◌}
use Rattle.check_state.specs.Results.{is_up_after, run_at_end}

-- for a server that is up its latest failures in a row; for one that is down as many failures as
-- take it down, and its latest successes in a row
abbrev pub shortened : ℕ → ℕ → List Bool → List Bool
shortened rise fall results =
    if is_up_after rise fall results then replicate (run_at_end false results) false else (replicate fall false ++ replicate (run_at_end true results) true)
