use Rattle.std.proofs.Common.{arith}
use Rattle.std.proofs.lemmas.Grind.{common_steps, elements}
use Rattle.queue_waits.proofs.queues.Queues.heads.Goals as goal

pub index-requires : goal.index-requires
index-requires g c = grind (arith, common_steps)

pub returns-clause-own : goal.returns-clause-own
returns-clause-own g c = grind (arith, elements)
