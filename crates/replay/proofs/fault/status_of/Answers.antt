use Rattle.std.proofs.Common.{arith}
use Rattle.std.proofs.lemmas.Grind.{common_steps}
use Rattle.replay.proofs.fault.status_of.Goals as goal

pub returns-in-Err-Script : goal.returns-in-Err-Script
returns-in-Err-Script c = grind (arith, common_steps)
