use Rattle.exchange_laws.proofs.Replying.{one_answering}
use Rattle.exchange_laws.proofs.readings.one_answering.Goals as goal

pub returns : goal.returns
returns c = one_answering
