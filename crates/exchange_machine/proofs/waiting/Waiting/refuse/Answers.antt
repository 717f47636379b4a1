use Rattle.exchange_machine.proofs.EventLemmas.{waiting_refused}
use Rattle.exchange_machine.proofs.waiting.Waiting.refuse.Goals as goal

pub returns-clause-tells : goal.returns-clause-tells
returns-clause-tells c h is why = waiting_refused c.args.self c.of.result h c.args.code is why c.of.ensures
