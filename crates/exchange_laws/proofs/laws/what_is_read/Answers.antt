use Rattle.exchange_laws.proofs.Reading.{read_so}
use Rattle.exchange_laws.proofs.laws.what_is_read.Goals as goal

pub returns : goal.returns
returns c = read_so
