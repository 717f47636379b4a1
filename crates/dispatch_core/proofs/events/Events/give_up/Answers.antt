use Rattle.dispatch_core.proofs.Standing.{at_freed}
use Rattle.dispatch_core.proofs.Retrying.{may_tell_spent, carries_spent}
use Rattle.dispatch_core.proofs.events.Events.give_up.Goals as goal

pub tell-requires-clause-lawful : goal.tell-requires-clause-lawful
tell-requires-clause-lawful g c =
    may_tell_spent c.args.self.now.state c.free.new.self c.args.it.ticket c.args.server c.requires.failing c.free.ensures c.requires.spent

pub returns : goal.returns
returns g c =
    carries_spent c.args.self.now.state c.free.new.self c.args.it.ticket c.args.server c.requires.failing c.free.ensures c.tell.new.self c.tell.ensures
    c.requires.room

pub tell-requires-clause-at : goal.tell-requires-clause-at
tell-requires-clause-at g c = at_freed c.args.self.now.state c.free.new.self c.args.it.ticket c.args.server c.args.it c.free.ensures c.requires.at
