-- The text of a story.
use Rattle.std.specs.Prelude.{◌≡◌, ℕ, ◌≤◌, List, ◌++◌, length, codes}
use Rattle.std.specs.List.{flat_map}
use Rattle.std.specs.Fmt.{decimal}
use Rattle.view_stories.specs.declared.lines.TheConstants.{MOST_LINES}

-- lines, each with its line feed
abbrev pub lines_text : List (List ℕ) → List ℕ
lines_text lines = flat_map (λ line. line ++ codes "\n") lines

-- the line that stands for the lines beyond the limit
abbrev pub count_text : ℕ → List ℕ
count_text more = codes "and " ++ decimal more ++ codes " more lines"

-- a text has one more story at its end: a few lines
pub record AddsStory (old new : List ℕ) : Type 0 where
  pub lines : List (List ℕ)
  pub few : length lines ≤ MOST_LINES
  pub added : new ≡ old ++ lines_text lines
