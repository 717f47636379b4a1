use Rattle.std.proofs.Common.{◌∙◌, length, ap, refl}
use Rattle.exchange_machine.proofs.SideLemmas.{dialing_passes}
use Rattle.exchange_machine.proofs.dialing.Dialing.begin.Goals as goal

pub returns-clause-passes : goal.returns-clause-passes
returns-clause-passes c h is =
    dialing_passes c.args.self _ h is refl refl refl refl c.begin.ensures.coding (c.begin.ensures.out ∙ c.requires.up) refl refl c.new.ensures.items
    c.requires.down refl (ap length c.waiting-leave_left.ensures) refl refl
