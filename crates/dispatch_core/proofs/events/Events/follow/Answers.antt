use Rattle.dispatch_core.proofs.Following.{carries_stay, may_tell_up, carries_up, went_down}
use Rattle.dispatch_core.proofs.events.Events.follow.Goals as goal

pub returns-in-Stay : goal.returns-in-Stay
returns-in-Stay g c = carries_stay c.args.self.now.state c.args.server c.requires.checking c.args.change c.requires.change c.in-Stay.is c.requires.room

pub tell_health-requires-clause-lawful : goal.tell_health-requires-clause-lawful
tell_health-requires-clause-lawful g c = may_tell_up c.args.self.now.state c.args.server c.requires.checking c.args.change c.requires.change c.in-WentUp.is

pub returns-in-WentUp : goal.returns-in-WentUp
returns-in-WentUp g c = carries_up c.args.self.now.state c.args.server c.requires.checking c.tell_health.new.self c.tell_health.ensures c.requires.room

pub fall-requires-clause-was : goal.fall-requires-clause-was
fall-requires-clause-was g c = (went_down c.args.self.now.state c.args.server c.requires.checking c.args.change c.requires.change c.in-WentDown.is).0

pub fall-requires-clause-down : goal.fall-requires-clause-down
fall-requires-clause-down g c = (went_down c.args.self.now.state c.args.server c.requires.checking c.args.change c.requires.change c.in-WentDown.is).1
