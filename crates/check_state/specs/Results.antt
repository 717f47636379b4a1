-- Whether a server is up, by the list of its check results, the oldest first; `true` is a success.
use Rattle.std.specs.Prelude.{ℕ, zero, suc, Bool, true, false, not, ◌&&◌, ◌||◌, List, [], ◌∷◌, reverse}
use Rattle.std.specs.Bool.{beq}
use Rattle.std.specs.List.{prefix_len}

-- the list begins with `n` results of one kind
abbrev pub begins_with : ℕ → Bool → List Bool → Bool
begins_with zero which results = true
begins_with (suc count) which [] = false
begins_with (suc count) which (result ∷ later) = beq result which && begins_with count which later

-- somewhere in the list stand `n` results of one kind in a row
abbrev pub has_run : ℕ → Bool → List Bool → Bool
has_run count which [] = begins_with count which []
has_run count which (result ∷ later) = begins_with count which (result ∷ later) || has_run count which later

-- `fall` failures stand in a row, and no `rise` successes stand in a row after them
abbrev pub is_down : ℕ → ℕ → List Bool → Bool
is_down rise fall [] = false
is_down rise fall (result ∷ later) = (begins_with fall false (result ∷ later) && not (has_run rise true later)) || is_down rise fall later

-- a server is up unless it is down
abbrev pub is_up_after : ℕ → ℕ → List Bool → Bool
is_up_after rise fall results = not (is_down rise fall results)

-- the number of results of one kind in a row at the end of the list
abbrev pub run_at_end : Bool → List Bool → ℕ
run_at_end which results = prefix_len (λ result. beq result which) (reverse results)
