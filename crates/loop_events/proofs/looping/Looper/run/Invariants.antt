use Rattle.std.proofs.Common.{length}
use Rattle.loop_events.proofs.looping.Looper.run.Given as goal

-- one fewer each time
abbrev pub decreases-loop-resident : goal.decreases-loop-resident
decreases-loop-resident g l = length l.residents.items
