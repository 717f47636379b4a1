use Rattle.exchange_laws.proofs.Answering.{answers_alike}
use Rattle.exchange_laws.proofs.readings.a_client_reads_alike.Goals as goal

pub returns : goal.returns
returns c = answers_alike
