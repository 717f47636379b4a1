use Rattle.std.proofs.Common.{refl}
use Rattle.exchange_machine.proofs.EventLemmas.{leaving_took}
use Rattle.exchange_machine.proofs.leaving.Leaving.client_took.Goals as goal

pub returns-clause-took : goal.returns-clause-took
returns-clause-took c h is = leaving_took c.args.self.now _ h c.args.count is c.went.ensures.out refl refl
