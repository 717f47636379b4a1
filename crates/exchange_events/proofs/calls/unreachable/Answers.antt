use Rattle.exchange_events.proofs.StepLemmas.{at_as}
use Rattle.exchange_events.proofs.calls.unreachable.Goals as goal

pub returns-in-Dialing-clause-at : goal.returns-in-Dialing-clause-at
returns-in-Dialing-clause-at c h is = c.unreached_at_first.ensures.at h (at_as h c.in-Dialing.is is)
