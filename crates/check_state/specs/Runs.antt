-- What it means that results stand in a row, and that a server is down, in terms of the parts of the list.
use Rattle.std.specs.Prelude.{◌≡◌, ℕ, Bool, true, false, List, ◌++◌, replicate}

-- somewhere in the list stand `n` results of one kind in a row
abbrev pub StandInARow : ℕ → Bool → List Bool → Type 0
StandInARow count which results = (before : List Bool) × (after : List Bool) × (results ≡ before ++ (replicate count which ++ after))

-- `fall` failures stand in a row with no `rise` successes in a row after them
abbrev pub HasFallen : ℕ → ℕ → List Bool → Type 0
HasFallen rise fall results = (before : List Bool) × (after : List Bool) × (results ≡ before ++ (replicate fall false ++ after))
    × ¬ (StandInARow rise true after)
