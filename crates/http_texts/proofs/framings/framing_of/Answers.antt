use Rattle.std.proofs.Common.{arith}
use Rattle.std.proofs.lemmas.Grind.{common_steps}
use Rattle.http_texts.proofs.framings.framing_of.Goals as goal

pub returns-in-Http11 : goal.returns-in-Http11
returns-in-Http11 c = grind (arith, common_steps)
