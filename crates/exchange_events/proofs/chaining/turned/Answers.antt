use Rattle.std.proofs.Common.{refl, subst}
use Rattle.exchange_machine.specs.Stages.{IsChecked, IsTurn}
use Rattle.exchange_machine.specs.Wholes.{begun}
use Rattle.exchange_machine.specs.declared.asking.Turn.{Turn}
use Rattle.exchange_events.specs.declared.exchange.Exchange.TheVariants.{Asking, Waiting}
use Rattle.exchange_events.specs.declared.exchange.Outcome.TheVariants.{Quiet}
use Rattle.exchange_events.proofs.ChainLemmas.{at_once}
use Rattle.exchange_events.proofs.chaining.turned.Goals as goal

pub returns-in-More-clause-begun : goal.returns-in-More-clause-begun
returns-in-More-clause-begun c behind is =
    at_once (Asking c.in-More.asking) behind (subst (λ (t : Turn). IsTurn t (begun behind)) c.in-More.is is)

pub returns-in-Whole-clause-begun : goal.returns-in-Whole-clause-begun
returns-in-Whole-clause-begun c behind is =
    at_once (Waiting c.in-Whole.waiting) behind (subst (λ (t : Turn). IsTurn t (begun behind)) c.in-Whole.is is)

pub returns-in-Refused-clause-begun : goal.returns-in-Refused-clause-begun
returns-in-Refused-clause-begun c behind is =
    c.unread.ensures.begun behind (subst (λ (t : Turn). IsTurn t (begun behind)) c.in-Refused.is is)

pub returns-in-More-clause-reads : goal.returns-in-More-clause-reads
returns-in-More-clause-reads c checked = (Quiet, refl)

pub returns-in-Whole-clause-reads : goal.returns-in-Whole-clause-reads
returns-in-Whole-clause-reads c checked = (Quiet, (refl, subst IsChecked c.in-Whole.is checked))
