use Rattle.exchange_laws.proofs.Replying.{answer_found}
use Rattle.exchange_laws.proofs.readings.a_client_finds_the_answer.Goals as goal

pub returns : goal.returns
returns c = answer_found
