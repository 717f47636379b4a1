use Rattle.std.proofs.Common.{refl}
use Rattle.exchange_machine.proofs.EventLemmas.{forwarding_ended}
use Rattle.exchange_machine.proofs.forwarding.Forwarding.server_ended.Goals as goal

pub returns-clause-passes : goal.returns-clause-passes
returns-clause-passes c h is ends well = forwarding_ended c.args.self.now _ h is ends well refl
