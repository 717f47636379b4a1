use Rattle.std.proofs.Common.{inl, inr, refl}
use Rattle.exchange_machine.specs.Wholes.{begun}
use Rattle.exchange_events.specs.declared.exchange.Exchange.TheVariants.{Telling}
use Rattle.exchange_events.specs.declared.exchange.Outcome.TheVariants.{Quiet, Starved}
use Rattle.exchange_events.proofs.ChainLemmas.{at_once, without_memory}
use Rattle.exchange_events.proofs.chaining.unread.Goals as goal

pub returns-then-eq-clause-begun : goal.returns-then-eq-clause-begun
returns-then-eq-clause-begun c behind is = without_memory (Telling c.starved.result) behind (c.starved.ensures.tells c.args.why (begun behind) is)

pub returns-else-eq-clause-begun : goal.returns-else-eq-clause-begun
returns-else-eq-clause-begun c behind is = at_once (Telling c.of_fault.result) behind (c.of_fault.ensures.tells (begun behind) is)

pub returns-then-eq-clause-reads : goal.returns-then-eq-clause-reads
returns-then-eq-clause-reads c = (Starved, inr (refl, c.starved.ensures.told))

pub returns-else-eq-clause-reads : goal.returns-else-eq-clause-reads
returns-else-eq-clause-reads c = (Quiet, inl (refl, c.of_fault.ensures.told))
