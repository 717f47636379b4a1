use Rattle.std.proofs.Common.{arith, ap}
use Rattle.due_key.specs.Order.{key_cmp}
use Rattle.pend_queue.specs.Pairs.{pairs_without}
use Rattle.queue_waits.specs.Lines.{lines_of}
use Rattle.queue_waits.proofs.Queueing.{own_changed, own_within, rooms_kept}
use Rattle.std.proofs.lemmas.Grind.{common_steps}
use Rattle.queue_waits.proofs.queues.Queues.remove.Goals as goal

pub invariant_of-self-in-Server : goal.invariant_of-self-in-Server
invariant_of-self-in-Server g c =
    let within =
    own_within g.Q.PendQueue.pairs c.self.inside.own.items _ _ _ (lines_of c.args.self.now) c.args.queue c.in-Server.server (ap lines_of c.self.view_is) c.in-Server.is c.requires in
    rooms_kept g.Q.PendQueue.pairs g.Q.PendQueue.room _ c.self.inside.backend c.self.inside.moved _ c.in-Server.server c.index_mut.result.now _ c.self.invariant
    within c.index_mut.ensures.value c.remove-in-Server.ensures.room

pub returns-in-Server-clause-rest : goal.returns-in-Server-clause-rest
returns-in-Server-clause-rest g c =
    let within =
    own_within g.Q.PendQueue.pairs c.self.inside.own.items _ _ _ (lines_of c.args.self.now) c.args.queue c.in-Server.server (ap lines_of c.self.view_is) c.in-Server.is c.requires in
    own_changed g.Q.PendQueue.pairs g.Q.PendQueue.room (pairs_without key_cmp c.args.key.now) c.self.inside.own.items c.self.inside.backend c.self.inside.moved _
    (lines_of c.args.self.now) c.args.queue c.in-Server.server c.index_mut.result.now _ (ap lines_of c.self.view_is) c.in-Server.is within c.index_mut.ensures.value
    c.remove-in-Server.ensures.pairs

pub index_mut-requires : goal.index_mut-requires
index_mut-requires g c = grind (arith, common_steps)

pub returns-in-Server-clause-its : goal.returns-in-Server-clause-its
returns-in-Server-clause-its g c = grind (arith, common_steps)
