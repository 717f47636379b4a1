use Rattle.std.proofs.Common.{◌≤◌, length}
use Rattle.std.specs.Str.Lines.{lines}
use Rattle.log_texts.proofs.Headers.{IsReadTo}
use Rattle.log_texts.proofs.header.read_lines.Given as goal

-- the lines so far are read, and none of them is faulty
abbrev pub invariant-lines : goal.invariant-lines
invariant-lines l = (length (lines l.script) ≤ length l.script) × IsReadTo (lines l.script) l.lines l.header l.number

abbrev pub decreases-lines : goal.decreases-lines
decreases-lines l = length l.lines
