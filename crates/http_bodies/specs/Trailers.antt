-- The lines after the last chunk (RFC 9112, section 7.1.2), which are read and dropped.
use Rattle.std.specs.Prelude.{◌≡◌, ◌≢◌, ℕ, ◌≤◌, List, [], ◌∷◌, ◌++◌, length}
use Rattle.std.specs.List.{flat_map, AllByRecursion}
use Rattle.httparse.specs.Ascii.{line_feed, carriage_return}
use Rattle.httparse.specs.Grammar.{LineEnd, print_end}

-- a line has no line feed except the one after it
abbrev pub IsLine : List ℕ → Type 0
IsLine line = AllByRecursion (λ byte. byte ≢ 10) line

abbrev pub print_line : List ℕ → List ℕ
print_line line = line ++ line_feed ∷ []

-- a line that isn't empty
pub record IsTrailer (line : List ℕ) : Type 0 where
  pub whole : IsLine line
  pub some : line ≢ []
  pub more : line ≢ carriage_return ∷ []

-- the lines, and the end of the empty line after them
pub record Trailers : Type 0 where
  pub lines : List (List ℕ)
  pub blank : LineEnd

abbrev pub print_trailers : Trailers → List ℕ
print_trailers t = flat_map print_line t.lines ++ print_end t.blank

-- they have at most this many bytes
pub record AreTrailers (most : ℕ) (t : Trailers) : Type 0 where
  pub lines : AllByRecursion IsTrailer t.lines
  pub few : length (print_trailers t) ≤ most

-- a line, or the trailers up to the empty line, don't stand at the front of the input within this many bytes
abbrev pub LacksLine : ℕ → List ℕ → Type 0
LacksLine most input = (line rest : List ℕ) → IsLine line → length (print_line line) ≤ most → ¬ (input ≡ print_line line ++ rest)

abbrev pub LacksTrailers : ℕ → List ℕ → Type 0
LacksTrailers most input = (t : Trailers) (rest : List ℕ) → AreTrailers most t → ¬ (input ≡ print_trailers t ++ rest)
