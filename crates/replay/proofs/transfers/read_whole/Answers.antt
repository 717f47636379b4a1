use Rattle.std.proofs.Common.{arith}
use Rattle.std.proofs.lemmas.Grind.{common_steps}
use Rattle.replay.proofs.transfers.read_whole.Goals as goal

pub returns-then-len-gt-MOST_BYTES-clause-too_long : goal.returns-then-len-gt-MOST_BYTES-clause-too_long
returns-then-len-gt-MOST_BYTES-clause-too_long g c = grind (arith, common_steps)

pub reading-preserved : goal.reading-preserved
reading-preserved g c = grind (arith, common_steps)
