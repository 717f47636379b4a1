use Rattle.std.proofs.Common.{take}
use Rattle.loop_table.specs.Timers.{ArePatient}
use Rattle.loop_table.proofs.timers.Timers.patience.Given as goal

-- so long it may wait for those before
abbrev pub invariant-loop-timed : goal.invariant-loop-timed
invariant-loop-timed l = ArePatient l.self.clock (take l.timed-index l.self.timed) l.least
