use Rattle.exchange_machine.specs.Reasons.Reason.{of_sign}
use Rattle.exchange_machine.proofs.EventLemmas.{forwarding_signed, shows_last}
use Rattle.exchange_machine.specs.Histories.{signed}
use Rattle.http_texts.specs.declared.refusals.Code.TheVariants.{Unavailable}
use Rattle.exchange_events.proofs.relaying.not_redialed.Goals as goal

pub returns-clause-at : goal.returns-clause-at
returns-clause-at c h is =
    let now = signed h c.args.sign in
    c.left.ensures.at now
    (c.refuse.ensures.leaves now (forwarding_signed c.args.forwarding h c.args.sign is) (of_sign c.args.sign Unavailable (shows_last h.signs c.args.sign) c.requires))

pub returns-then-has_begun-clause-at : goal.returns-then-has_begun-clause-at
returns-then-has_begun-clause-at c h is = c.ends.ensures.at (signed h c.args.sign) (forwarding_signed c.args.forwarding h c.args.sign is)
