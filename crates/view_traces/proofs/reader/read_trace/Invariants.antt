use Rattle.std.proofs.Common.{◌+◌, ◌≤◌, length}
use Rattle.view_traces.proofs.reader.read_trace.Given as goal

-- no more lines than the text has bytes were read and are left
abbrev pub invariant-lines : goal.invariant-lines
invariant-lines l = l.number + length l.lines ≤ length l.text

abbrev pub decreases-lines : goal.decreases-lines
decreases-lines l = length l.lines
