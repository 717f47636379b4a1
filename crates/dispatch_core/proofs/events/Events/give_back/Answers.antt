use Rattle.dispatch_core.proofs.Standing.{at_freed}
use Rattle.dispatch_core.proofs.Calls.{may_free, freed_ends, gives_back}
use Rattle.dispatch_core.proofs.events.Events.give_back.Goals as goal

pub free-requires-clause-lawful : goal.free-requires-clause-lawful
free-requires-clause-lawful g c = may_free c.args.self.now.state c.args.it.ticket c.args.server c.requires.returning c.requires.slot

pub end-requires-clause-lawful : goal.end-requires-clause-lawful
end-requires-clause-lawful g c = freed_ends c.args.self.now.state c.free.new.self c.args.it.ticket c.args.server c.requires.returning c.free.ensures

pub returns : goal.returns
returns g c = gives_back c.args.self.now.state c.free.new.self c.end.new.self c.args.it.ticket c.args.server c.free.ensures c.end.ensures

pub end-requires-clause-at : goal.end-requires-clause-at
end-requires-clause-at g c = at_freed c.args.self.now.state c.free.new.self c.args.it.ticket c.args.server c.args.it c.free.ensures c.requires.at
