use Rattle.exchange_machine.proofs.EventLemmas.{dialing_left}
use Rattle.exchange_machine.proofs.dialing.Dialing.abandon.Goals as goal

pub returns-clause-ends : goal.returns-clause-ends
returns-clause-ends c h is = dialing_left c.args.self h is
