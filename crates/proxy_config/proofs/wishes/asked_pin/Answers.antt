use Rattle.std.proofs.Common.{arith}
use Rattle.std.proofs.lemmas.Grind.{common_steps}
use Rattle.proxy_config.proofs.wishes.asked_pin.Goals as goal

pub returns : goal.returns
returns c = grind (arith, common_steps)
