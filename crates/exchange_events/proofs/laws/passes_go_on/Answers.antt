use Rattle.exchange_events.proofs.PassLemmas.{passes_go_on}
use Rattle.exchange_events.proofs.laws.passes_go_on.Goals as goal

pub returns : goal.returns
returns c = passes_go_on
