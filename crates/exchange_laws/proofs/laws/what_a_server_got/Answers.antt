use Rattle.exchange_laws.proofs.Serving.{in_order}
use Rattle.exchange_laws.proofs.laws.what_a_server_got.Goals as goal

pub returns : goal.returns
returns c = in_order
