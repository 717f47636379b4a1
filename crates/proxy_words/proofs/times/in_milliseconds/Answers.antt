use Rattle.std.proofs.Common.{arith}
use Rattle.std.proofs.lemmas.Grind.{common_steps}
use Rattle.proxy_words.proofs.times.in_milliseconds.Goals as goal

pub returns-in-us-clause-value : goal.returns-in-us-clause-value
returns-in-us-clause-value c = grind (arith, common_steps)
