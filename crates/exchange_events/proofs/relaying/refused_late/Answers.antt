use Rattle.std.proofs.Common.{refl}
use Rattle.exchange_machine.specs.Reasons.Reason.{of_sign}
use Rattle.exchange_machine.proofs.EventLemmas.{forwarding_signed, shows_last}
use Rattle.exchange_machine.specs.Histories.{signed}
use Rattle.exchange_machine.specs.declared.signs.Sign.TheVariants.{ServerOver}
use Rattle.http_texts.specs.declared.refusals.Code.TheVariants.{BadGateway}
use Rattle.exchange_events.proofs.relaying.refused_late.Goals as goal

pub returns-clause-at : goal.returns-clause-at
returns-clause-at c h is =
    let late = signed h ServerOver in
    c.left.ensures.at late
    (c.refuse.ensures.leaves late (forwarding_signed c.args.forwarding h ServerOver is) (of_sign ServerOver BadGateway (shows_last h.signs ServerOver) refl))

pub returns-then-has_begun-clause-at : goal.returns-then-has_begun-clause-at
returns-then-has_begun-clause-at c h is = c.ends.ensures.at (signed h ServerOver) (forwarding_signed c.args.forwarding h ServerOver is)
