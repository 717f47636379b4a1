use Rattle.std.proofs.Common.{◌≡◌, ◌++◌, map, take, string_bytes}
use Rattle.view_stories.specs.Stories.{lines_text}
use Rattle.view_stories.proofs.lines.push_lines.Given as goal

-- the lines so far
abbrev pub invariant-loop-line : goal.invariant-loop-line
invariant-loop-line l = string_bytes l.text ≡ string_bytes l.initial.text ++ lines_text (map string_bytes (take l.line-index l.lines))
