use Rattle.exchange_laws.proofs.Reading.{sent_so}
use Rattle.exchange_laws.proofs.laws.what_a_server_reads.Goals as goal

pub returns : goal.returns
returns c = sent_so
