-- How a text is cut. Its lines are `lines` of std: cut at each line feed, without a carriage return
-- before it, and an empty last part isn't a line.
use Rattle.std.specs.Prelude.{ℕ, Bool, ◌==◌, ◌||◌, not, List, length, filter}
use Rattle.std.specs.List.{slice_split, before_first}

abbrev pub is_line_feed : ℕ → Bool
is_line_feed byte = byte == 10

-- a space or a tab
abbrev pub is_blank : ℕ → Bool
is_blank byte = byte == 32 || byte == 9

-- a number sign
abbrev pub is_comment_sign : ℕ → Bool
is_comment_sign byte = byte == 35

abbrev pub is_filled : List ℕ → Bool
is_filled word = not (length word == 0)

-- the words of a line: its non-empty parts between blanks
abbrev pub words : List ℕ → List (List ℕ)
words line = filter is_filled (slice_split is_blank line)

-- a line up to its comment
abbrev pub uncommented : List ℕ → List ℕ
uncommented line = before_first is_comment_sign line
