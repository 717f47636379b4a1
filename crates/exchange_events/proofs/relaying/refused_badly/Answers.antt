use Rattle.exchange_machine.specs.Reasons.Reason.{bad_answer}
use Rattle.exchange_events.proofs.relaying.refused_badly.Goals as goal

pub returns-clause-at : goal.returns-clause-at
returns-clause-at c h is lacks = c.left.ensures.at h (c.refuse.ensures.leaves h is (bad_answer lacks))
