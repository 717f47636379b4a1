use Rattle.base_verdict.specs.declared.Ending.TheVariants.{Done}
use Rattle.http_texts.specs.declared.refusals.Code.TheVariants.{Unavailable}
use Rattle.exchange_machine.specs.Histories.{signed, posted}
use Rattle.exchange_machine.specs.Reasons.Reason.{of_sign}
use Rattle.exchange_machine.proofs.EventLemmas.{dialing_signed, shows_last}
use Rattle.exchange_events.proofs.calls.unreached_at_first.Goals as goal

pub returns-then-has_reached-clause-at : goal.returns-then-has_reached-clause-at
returns-then-has_reached-clause-at c h is = c.refuse.ensures.tells (posted (signed h c.args.sign) c.give_up-waiting.result.1 Done) (c.give_up-waiting.ensures.waits
    (signed h c.args.sign) (dialing_signed c.args.dialing h c.args.sign is)) (of_sign c.args.sign Unavailable (shows_last h.signs c.args.sign) c.requires)

pub returns-clause-at : goal.returns-clause-at
returns-clause-at c h is = c.fail-waiting.ensures.waits (signed h c.args.sign) (dialing_signed c.args.dialing h c.args.sign is)
