use Rattle.exchange_laws.proofs.Composing.{in_order}
use Rattle.exchange_laws.proofs.laws.what_a_client_got.Goals as goal

pub returns : goal.returns
returns c = in_order
