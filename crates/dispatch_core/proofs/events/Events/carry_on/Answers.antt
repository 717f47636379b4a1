use Rattle.dispatch_core.proofs.Retrying.{carries_retry}
use Rattle.dispatch_core.proofs.events.Events.carry_on.Goals as goal

pub returns-in-Retried : goal.returns-in-Retried
returns-in-Retried g c =
    carries_retry c.args.self.now.state c.retry.new.self c.args.it.ticket c.args.server c.args.failures c.requires.failing c.retry.ensures c.requires.room
