use Rattle.exchange_events.proofs.StepLemmas.{ran_ends}
use Rattle.exchange_events.proofs.exchange.Exchange.+run.Goals as goal

pub returns-in-End : goal.returns-in-End
returns-in-End g n c h is = ran_ends c.args.rules.aborts c.args.self h c.args.events (g.D.OutcomeReceiver.told c.args.receiver.now) c.in-End.is is
