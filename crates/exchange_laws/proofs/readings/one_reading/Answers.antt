use Rattle.exchange_laws.proofs.MessageReading.{one_order}
use Rattle.exchange_laws.proofs.readings.one_reading.Goals as goal

pub returns : goal.returns
returns c = one_order
