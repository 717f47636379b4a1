use Rattle.exchange_machine.specs.Histories.{signed}
use Rattle.exchange_machine.specs.declared.signs.Sign.TheVariants.{ClientOver}
use Rattle.exchange_machine.proofs.EventLemmas.{asking_signed, asking_over, shows_last}
use Rattle.exchange_events.proofs.timeouts.asked_late.Goals as goal

pub returns-then-is_silent-clause-at : goal.returns-then-is_silent-clause-at
returns-then-is_silent-clause-at c h is = c.quiet.ensures.at (signed h ClientOver) (asking_over c.args.asking (signed h ClientOver)
    (asking_signed c.args.asking h ClientOver is))

pub returns-else-is_silent-clause-at : goal.returns-else-is_silent-clause-at
returns-else-is_silent-clause-at c h is = c.quiet-else-is_silent.ensures.at (signed h ClientOver)
    (c.late.ensures.tells (signed h ClientOver) (asking_signed c.args.asking h ClientOver is) (shows_last h.signs ClientOver))
