use Rattle.exchange_laws.proofs.Reading.{answered_so}
use Rattle.exchange_laws.proofs.laws.what_a_server_answers.Goals as goal

pub returns : goal.returns
returns c = answered_so
