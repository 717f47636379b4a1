use Rattle.exchange_laws.proofs.Rereading.{reads_alike}
use Rattle.exchange_laws.proofs.readings.a_server_reads_alike.Goals as goal

pub returns : goal.returns
returns c = reads_alike
