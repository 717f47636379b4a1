use Rattle.std.proofs.Common.{drop, ap}
use Rattle.queue_waits.specs.Lines.{lines_of}
use Rattle.queue_waits.proofs.Queueing.{own_changed, own_within, rooms_kept}
use Rattle.queue_waits.proofs.queues.Queues.pop.Goals as goal

pub invariant_of-self-in-Server : goal.invariant_of-self-in-Server
invariant_of-self-in-Server g c =
    let within =
    own_within g.Q.PendQueue.pairs c.self.inside.own.items _ _ _ (lines_of c.args.self.now) c.args.queue c.in-Server.server (ap lines_of c.self.view_is) c.in-Server.is c.requires in
    rooms_kept g.Q.PendQueue.pairs g.Q.PendQueue.room _ c.self.inside.backend c.self.inside.moved _ c.in-Server.server c.index_mut.result.now _ c.self.invariant
    within c.index_mut.ensures.value c.pop-in-Server.ensures.room

pub returns-in-Server-clause-rest : goal.returns-in-Server-clause-rest
returns-in-Server-clause-rest g c =
    let within =
    own_within g.Q.PendQueue.pairs c.self.inside.own.items _ _ _ (lines_of c.args.self.now) c.args.queue c.in-Server.server (ap lines_of c.self.view_is) c.in-Server.is c.requires in
    own_changed g.Q.PendQueue.pairs g.Q.PendQueue.room (drop 1) c.self.inside.own.items c.self.inside.backend c.self.inside.moved _ (lines_of c.args.self.now) c.args.queue
    c.in-Server.server c.index_mut.result.now _ (ap lines_of c.self.view_is) c.in-Server.is within c.index_mut.ensures.value c.pop-in-Server.ensures.pairs
