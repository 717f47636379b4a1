-- Lines in the bytes of a client.
use Rattle.std.specs.Prelude.{◌≡◌, ℕ, ◌+◌, Bool, ◌==◌, List, take, drop, position, Some}

abbrev pub is_line_feed : ℕ → Bool
is_line_feed byte = byte == 10

-- `line` stands before the first line feed, and `rest` after it
abbrev pub IsFirstLine : List ℕ → List ℕ → List ℕ → Type 0
IsFirstLine bytes line rest =
    (end : ℕ) × ((position is_line_feed bytes ≡ Some end) × (line ≡ take end bytes) × (rest ≡ drop (end + 1) bytes))
