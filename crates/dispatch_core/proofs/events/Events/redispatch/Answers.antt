use Rattle.dispatch_core.proofs.Standing.{at_freed}
use Rattle.dispatch_core.proofs.Retrying.{may_grant_redispatched, redispatch_room, redispatch_put, redispatch_pin, place_room, carries_redispatch}
use Rattle.dispatch_core.proofs.events.Events.redispatch.Goals as goal

pub settle-requires-clause-may_grant : goal.settle-requires-clause-may_grant
settle-requires-clause-may_grant g c =
    may_grant_redispatched c.args.self.now.state c.free.new.self c.args.it.ticket c.args.server c.requires.failing c.free.ensures c.requires.redispatched

pub settle-requires-clause-room : goal.settle-requires-clause-room
settle-requires-clause-room g c =
    redispatch_room c.args.self.now.state c.free.new.self c.args.it.ticket c.args.server c.requires.failing c.free.ensures c.requires.room

pub place-requires-clause-may_put : goal.place-requires-clause-may_put
place-requires-clause-may_put g c =
    redispatch_put c.args.self.now.state c.free.new.self c.args.it.ticket c.args.server c.requires.failing c.free.ensures c.settle.new.self.state
    c.settle.ensures

pub place-requires-clause-pin : goal.place-requires-clause-pin
place-requires-clause-pin g c =
    redispatch_pin c.args.self.now.state c.free.new.self c.args.it.ticket c.args.server c.requires.failing c.free.ensures c.settle.new.self.state
    c.settle.ensures c.requires.pin

pub place-requires-clause-room : goal.place-requires-clause-room
place-requires-clause-room g c =
    place_room c.args.self.now.state c.free.new.self c.args.it.ticket c.args.server c.requires.failing c.free.ensures c.settle.new.self.state c.settle.ensures
    c.requires.room

pub returns : goal.returns
returns g c =
    carries_redispatch c.args.self.now.state c.free.new.self c.args.it.ticket c.args.server c.requires.failing c.free.ensures c.settle.new.self.state
    c.settle.ensures c.place.new.self.state c.place.ensures c.requires.room

pub place-requires-clause-at : goal.place-requires-clause-at
place-requires-clause-at g c =
    c.settle.ensures.places c.args.it (at_freed c.args.self.now.state c.free.new.self c.args.it.ticket c.args.server c.args.it c.free.ensures c.requires.at)
