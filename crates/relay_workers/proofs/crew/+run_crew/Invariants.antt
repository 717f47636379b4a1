use Rattle.std.proofs.Common.{length}
use Rattle.relay_workers.proofs.crew.+run_crew.Given as goal

-- a seat fewer in each call
abbrev pub decreases-run_crew : goal.decreases-run_crew
decreases-run_crew g l = length l.seats.now
