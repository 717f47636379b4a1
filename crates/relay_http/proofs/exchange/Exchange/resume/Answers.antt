use Rattle.std.proofs.Common.{arith}
use Rattle.std.proofs.lemmas.Grind.{common_steps}
use Rattle.relay_http.proofs.exchange.Exchange.resume.Goals as goal

pub returns-clause-stage : goal.returns-clause-stage
returns-clause-stage c = grind (arith, common_steps)
