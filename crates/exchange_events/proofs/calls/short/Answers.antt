use Rattle.std.proofs.Common.{refl}
use Rattle.base_verdict.specs.declared.Ending.TheVariants.{Done}
use Rattle.http_texts.specs.declared.refusals.Code.TheVariants.{Unavailable}
use Rattle.exchange_machine.specs.declared.signs.Sign.TheVariants.{NoMemory}
use Rattle.exchange_machine.specs.Histories.{signed, posted}
use Rattle.exchange_machine.specs.Reasons.Reason.{of_sign}
use Rattle.exchange_machine.proofs.EventLemmas.{dialing_signed, shows_last}
use Rattle.exchange_events.proofs.calls.short.Goals as goal

pub returns-clause-at : goal.returns-clause-at
returns-clause-at c h adds is = c.refuse.ensures.tells (posted (signed h NoMemory) c.give_up-waiting.result.1 Done) (c.give_up-waiting.ensures.waits
    (signed h NoMemory) (dialing_signed c.args.dialing h NoMemory is)) (of_sign NoMemory Unavailable (shows_last h.signs NoMemory) refl)
