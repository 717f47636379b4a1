-- Bodies of a stated length.
use Rattle.std.specs.Prelude.{ℕ, ◌<◌, List, length}

-- the input has fewer bytes than the body
abbrev pub LacksLength : ℕ → List ℕ → Type 0
LacksLength count input = length input < count
