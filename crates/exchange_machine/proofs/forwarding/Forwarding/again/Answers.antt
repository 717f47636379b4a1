use Rattle.exchange_machine.proofs.RepeatLemmas.{forwarding_again}
use Rattle.exchange_machine.proofs.forwarding.Forwarding.again.Goals as goal

pub returns-clause-dials : goal.returns-clause-dials
returns-clause-dials c h is = forwarding_again c.args.self h is c.requires
