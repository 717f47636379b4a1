use Rattle.exchange_machine.proofs.EventLemmas.{asking_new}
use Rattle.exchange_machine.proofs.asking.Asking.new.Goals as goal

pub returns : goal.returns
returns c = asking_new _ c.new.ensures.items
