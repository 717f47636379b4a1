use Rattle.exchange_laws.proofs.Connecting.{connections_are_true}
use Rattle.exchange_laws.proofs.passes.connections_are_true.Goals as goal

pub returns : goal.returns
returns c = connections_are_true
