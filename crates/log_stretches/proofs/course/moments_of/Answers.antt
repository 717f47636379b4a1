use Rattle.std.proofs.Common.{arith}
use Rattle.std.proofs.lemmas.Grind.{common_steps}
use Rattle.log_stretches.proofs.course.moments_of.Goals as goal

pub loop-entry-preserved : goal.loop-entry-preserved
loop-entry-preserved c = grind (arith, common_steps)

pub loop-entry-init : goal.loop-entry-init
loop-entry-init c = grind (arith, common_steps)
