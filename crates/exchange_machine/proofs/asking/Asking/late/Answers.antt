use Rattle.exchange_machine.proofs.EventLemmas.{asking_late}
use Rattle.exchange_machine.proofs.asking.Asking.late.Goals as goal

pub returns-clause-tells : goal.returns-clause-tells
returns-clause-tells c h is shows = asking_late c.args.self c.of.result h is shows c.of.ensures
