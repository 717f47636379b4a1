use Rattle.exchange_machine.specs.Reasons.Reason.{broken_request}
use Rattle.exchange_machine.proofs.SideLemmas.{forwarding_breaks}
use Rattle.exchange_machine.proofs.forwarding.Forwarding.refuse_request.Goals as goal

pub returns-clause-leaves : goal.returns-clause-leaves
returns-clause-leaves c h is = c.refuse.ensures.leaves h is (broken_request (forwarding_breaks c.args.self h is c.requires.bad))
