use Rattle.exchange_machine.specs.declared.signs.Sign.TheVariants.{NoMemory}
use Rattle.http_texts.specs.declared.refusals.Code.TheVariants.{Unavailable}
use Rattle.std.proofs.Common.{refl}
use Rattle.exchange_machine.specs.Reasons.Reason.{of_sign}
use Rattle.exchange_machine.proofs.EventLemmas.{forwarding_signed, shows_last}
use Rattle.exchange_machine.specs.Histories.{signed}
use Rattle.exchange_events.proofs.relaying.refused_short.Goals as goal

pub returns-clause-at : goal.returns-clause-at
returns-clause-at c h is = c.refuse-pass.ensures.leaves (signed h NoMemory) (forwarding_signed c.args.forwarding h NoMemory is) (of_sign NoMemory Unavailable
    (shows_last h.signs NoMemory) refl)
