use Rattle.std.proofs.Common.{ℕ, List, ◌++◌, ◌≤◌, length, filter_map, string_bytes}
use Rattle.std.specs.Str.Lines.{lines}
use Rattle.log_entries.specs.Histories.{History}
use Rattle.log_texts.specs.Steps.{step_of, steps_of}
use Rattle.log_texts.specs.ScriptTexts.{IsScriptText}
use Rattle.log_texts.proofs.Bodies.{IsThrough}
use Rattle.replay.proofs.run.run.Given as goal

-- the lines so far have no fault; and the written text with a text of the remaining lines behind it is a text of all lines
abbrev pub invariant-lines : goal.invariant-lines
invariant-lines g l =
    (length (lines l.script) ≤ length l.script) × IsThrough (lines l.script) l.lines l.header l.number
    × ((last : History) (rest : List ℕ) → IsScriptText l.names l.core (filter_map step_of l.lines) last rest
    → IsScriptText l.names l.initial.core (steps_of l.script) last (string_bytes l.text ++ rest))

abbrev pub decreases-lines : goal.decreases-lines
decreases-lines g l = length l.lines
