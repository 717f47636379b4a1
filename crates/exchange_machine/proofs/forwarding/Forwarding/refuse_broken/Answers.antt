use Rattle.exchange_machine.specs.Reasons.Reason.{broken_answer}
use Rattle.exchange_machine.proofs.SideLemmas.{forwarding_answers_badly}
use Rattle.exchange_machine.proofs.forwarding.Forwarding.refuse_broken.Goals as goal

pub returns-clause-leaves : goal.returns-clause-leaves
returns-clause-leaves c h is = c.refuse.ensures.leaves h is (broken_answer (forwarding_answers_badly c.args.self h is c.requires.body c.requires.bad))
