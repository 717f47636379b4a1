use Rattle.std.proofs.Common.{refl}
use Rattle.exchange_machine.proofs.RepeatLemmas.{forwarding_redialed}
use Rattle.exchange_machine.proofs.forwarding.Forwarding.redial.Goals as goal

pub returns-clause-dials : goal.returns-clause-dials
returns-clause-dials c h is = forwarding_redialed c.args.self.now _ h is c.requires refl
