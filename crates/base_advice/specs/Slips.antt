-- Which words count as slips of which others.
use Rattle.std.specs.Prelude.{ℕ, List, length, nat_eq, ◌≤◌, ◌<◌, ◌*◌}
use Rattle.std.specs.Str.{chars}
use Rattle.strsim.specs.Edits.{levenshtein_row}

-- the number of edits of single characters from one text to another
abbrev pub edits_between : List ℕ → List ℕ → ℕ
edits_between from to = levenshtein_row nat_eq (chars from) (chars to) (length (chars to))

-- at most two edits lead to the known word, and fewer than half of its bytes
abbrev pub IsSlip : List ℕ → List ℕ → Type 0
IsSlip word known = (edits_between word known ≤ 2) × (edits_between word known * 2 < length known)
