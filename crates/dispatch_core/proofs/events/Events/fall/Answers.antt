use Rattle.dispatch_core.proofs.Following.{may_tell_down, fallen_stage, fallen_room, carries_fall}
use Rattle.dispatch_core.proofs.events.Events.fall.Goals as goal

pub tell_health-requires-clause-lawful : goal.tell_health-requires-clause-lawful
tell_health-requires-clause-lawful g c = may_tell_down c.args.self.now.state c.args.server c.requires.checking c.requires.was c.requires.down

pub empty-requires-clause-emptying : goal.empty-requires-clause-emptying
empty-requires-clause-emptying g c = fallen_stage c.args.self.now.state c.args.server c.requires.checking c.tell_health.new.self c.tell_health.ensures

pub empty-requires-clause-room : goal.empty-requires-clause-room
empty-requires-clause-room g c =
    fallen_room c.args.self.now.state c.args.server c.requires.checking c.tell_health.new.self c.tell_health.ensures c.requires.room

pub returns : goal.returns
returns g c =
    carries_fall c.args.self.now.state c.args.server c.requires.checking c.tell_health.new.self c.tell_health.ensures c.empty.new.self.state c.empty.ensures
