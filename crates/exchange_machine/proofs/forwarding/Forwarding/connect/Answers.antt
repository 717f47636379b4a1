use Rattle.std.proofs.Common.{refl}
use Rattle.exchange_machine.proofs.EventLemmas.{forwarding_marked}
use Rattle.exchange_machine.proofs.forwarding.Forwarding.connect.Goals as goal

pub returns-clause-passes : goal.returns-clause-passes
returns-clause-passes c h is = forwarding_marked c.args.self.now _ h is is.looked refl
