-- Comma-separated parts of a text.
use Rattle.std.specs.Prelude.{ℕ, Bool, ◌==◌, if◌then◌else◌, List, [], ◌∷◌, map, reverse, Option, Some, None}
use Rattle.std.specs.List.{slice_split}
use Rattle.proxy_words.specs.Text.{is_blank}

abbrev pub is_comma : ℕ → Bool
is_comma byte = byte == 44

-- a text without the blanks at its front
abbrev pub after_blanks : List ℕ → List ℕ
after_blanks [] = []
after_blanks (byte ∷ text) = if is_blank byte then after_blanks text else byte ∷ text

-- a text without the blanks at both ends
abbrev pub trimmed : List ℕ → List ℕ
trimmed text = reverse (after_blanks (reverse (after_blanks text)))

-- the comma-separated parts of a text, each without the blanks at both ends
abbrev pub parts : List ℕ → List (List ℕ)
parts text = map trimmed (slice_split is_comma text)

-- the parts of the rest of a text, if there is one
abbrev pub parts_left : Option (List ℕ) → List (List ℕ)
parts_left None = []
parts_left (Some text) = parts text
