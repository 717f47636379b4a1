use Rattle.std.proofs.Common.{◌≡◌, map, take}
use Rattle.view_traces.specs.Windows.{told_by, told_of}
use Rattle.view_traces.proofs.window.lines_of.Given as goal

-- the lines so far
abbrev pub invariant-loop-report : goal.invariant-loop-report
invariant-loop-report l = map told_by l.lines.items ≡ map told_of (take l.report-index l.reports)
