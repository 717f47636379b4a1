use Rattle.std.proofs.Common.{ap}
use Rattle.exchange_events.specs.Chains.{is_answered}
use Rattle.exchange_events.proofs.ChainLemmas.{answered_whole}
use Rattle.exchange_events.proofs.exchange.Exchange.is_answered.Goals as goal

pub returns-in-Settling-clause-whole : goal.returns-in-Settling-clause-whole
returns-in-Settling-clause-whole c on h is = answered_whole c.args.self.now h (ap is_answered c.in-Settling.is) is
