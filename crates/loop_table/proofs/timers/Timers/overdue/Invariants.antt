use Rattle.std.proofs.Common.{take}
use Rattle.loop_table.specs.Timers.{AreQuiet}
use Rattle.loop_table.proofs.timers.Timers.overdue.Given as goal

-- none of those before is over
abbrev pub invariant-loop-keyword : goal.invariant-loop-keyword
invariant-loop-keyword l = AreQuiet l.self.clock (take l.keyword l.self.timed)
