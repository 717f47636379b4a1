use Rattle.exchange_machine.specs.Histories.{signed}
use Rattle.exchange_machine.proofs.EventLemmas.{asking_signed, waiting_signed, dialing_signed, forwarding_signed, settling_signed, leaving_signed, telling_signed, over_signed, asking_over, waiting_over, settling_over, leaving_over, telling_over}
use Rattle.exchange_events.proofs.StepLemmas.{at_as}
use Rattle.exchange_events.proofs.calls.gone.Goals as goal

pub returns-in-Dialing-clause-at : goal.returns-in-Dialing-clause-at
returns-in-Dialing-clause-at c h is = c.abandon-pass.ensures.ends (signed h c.args.sign) (dialing_signed c.in-Dialing.dialing h c.args.sign (at_as h c.in-Dialing.is is))

pub returns-in-Forwarding-clause-at : goal.returns-in-Forwarding-clause-at
returns-in-Forwarding-clause-at c h is = c.abandon-pass-in-Forwarding.ensures.ends (signed h c.args.sign) (forwarding_signed c.in-Forwarding.forwarding h c.args.sign
    (at_as h c.in-Forwarding.is is))

pub returns-in-Asking-clause-at : goal.returns-in-Asking-clause-at
returns-in-Asking-clause-at c h is = c.quiet.ensures.at (signed h c.args.sign) (asking_over c.in-Asking._asking (signed h c.args.sign)
    (asking_signed c.in-Asking._asking h c.args.sign (at_as h c.in-Asking.is is)))

pub returns-in-Waiting-clause-at : goal.returns-in-Waiting-clause-at
returns-in-Waiting-clause-at c h is = c.quiet-in-Waiting.ensures.at (signed h c.args.sign) (waiting_over c.in-Waiting._waiting (signed h c.args.sign)
    (waiting_signed c.in-Waiting._waiting h c.args.sign (at_as h c.in-Waiting.is is)))

pub returns-in-Settling-clause-at : goal.returns-in-Settling-clause-at
returns-in-Settling-clause-at c h is = c.quiet-in-Settling.ensures.at (signed h c.args.sign) (settling_over c.in-Settling._settling (signed h c.args.sign)
    (settling_signed c.in-Settling._settling h c.args.sign (at_as h c.in-Settling.is is)))

pub returns-in-Leaving-clause-at : goal.returns-in-Leaving-clause-at
returns-in-Leaving-clause-at c h is = c.quiet-in-Leaving.ensures.at (signed h c.args.sign) (leaving_over c.in-Leaving._leaving (signed h c.args.sign)
    (leaving_signed c.in-Leaving._leaving h c.args.sign (at_as h c.in-Leaving.is is)))

pub returns-in-Telling-clause-at : goal.returns-in-Telling-clause-at
returns-in-Telling-clause-at c h is = c.quiet-in-Telling.ensures.at (signed h c.args.sign) (telling_over c.in-Telling._telling (signed h c.args.sign)
    (telling_signed c.in-Telling._telling h c.args.sign (at_as h c.in-Telling.is is)))

pub returns-in-Over-clause-at : goal.returns-in-Over-clause-at
returns-in-Over-clause-at c h is = c.quiet-in-Over.ensures.at (signed h c.args.sign) (over_signed h c.args.sign (at_as h c.in-Over.is is))
