use Rattle.exchange_machine.specs.Reasons.Reason.{of_sign}
use Rattle.exchange_machine.specs.Histories.{signed}
use Rattle.exchange_machine.proofs.EventLemmas.{waiting_signed, shows_last}
use Rattle.exchange_events.proofs.StepLemmas.{at_as}
use Rattle.http_texts.specs.declared.refusals.Code.TheVariants.{Unavailable}
use Rattle.exchange_events.proofs.calls.unserved.Goals as goal

pub returns-in-Waiting-clause-at : goal.returns-in-Waiting-clause-at
returns-in-Waiting-clause-at c h is = c.quiet.ensures.at (signed h c.args.sign) (c.refuse.ensures.tells (signed h c.args.sign)
    (waiting_signed c.in-Waiting.waiting h c.args.sign (at_as h c.in-Waiting.is is)) (of_sign c.args.sign Unavailable
    (shows_last h.signs c.args.sign) c.requires))
