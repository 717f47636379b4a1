use Rattle.std.proofs.Common.{refl}
use Rattle.exchange_machine.proofs.SettlingLemmas.{settling_took}
use Rattle.exchange_machine.proofs.settling.Settling.client_took.Goals as goal

pub returns-clause-took : goal.returns-clause-took
returns-clause-took c h is = settling_took c.args.self.now _ h c.args.count is refl c.went.ensures.out
