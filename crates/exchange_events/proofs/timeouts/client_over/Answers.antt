use Rattle.exchange_events.proofs.StepLemmas.{at_as}
use Rattle.exchange_events.proofs.timeouts.client_over.Goals as goal

pub returns-in-Asking-clause-at : goal.returns-in-Asking-clause-at
returns-in-Asking-clause-at c h is = c.asked_late.ensures.at h (at_as h c.in-Asking.is is)
