use Rattle.std.proofs.Common.{◌≡◌, ◌<◌, ℕ, length, ap, sym, ◌∙◌, subst}
use Rattle.due_key.specs.Order.{key_cmp}
use Rattle.pend_queue.specs.Pairs.{KeyIsAbsent, inserted}
use Rattle.queue_waits.specs.Lines.{Line, Lined, lines_of}
use Rattle.queue_waits.proofs.Queueing.{own_changed, own_within, own_waits, backend_changed, rooms_kept, room_at}
use Rattle.queue_waits.proofs.queues.Queues.push.Goals as goal

pub push-requires-in-Server-clause-room : goal.push-requires-in-Server-clause-room
push-requires-in-Server-clause-room g c =
    let within =
    own_within g.Q.PendQueue.pairs c.self.inside.own.items _ _ _ (lines_of c.args.self.now) c.args.queue c.in-Server.server (ap lines_of c.self.view_is) c.in-Server.is
    c.requires.within in
    let waits =
    own_waits g.Q.PendQueue.pairs g.Q.PendQueue.room c.self.inside.own.items c.self.inside.backend c.self.inside.moved _ (lines_of c.args.self.now) c.args.queue
    c.in-Server.server c.index_mut.result.now (ap lines_of c.self.view_is) c.in-Server.is within c.index_mut.ensures.value in
    let room =
    room_at g.Q.PendQueue.pairs g.Q.PendQueue.room c.self.inside.own.items c.self.inside.backend c.self.inside.moved _ c.in-Server.server
    c.index_mut.result.now c.self.invariant within c.index_mut.ensures.value in
    let places : c.self.inside.places ≡ c.args.self.now.room = ap (λ (l : Lined). l.room) (ap lines_of c.self.view_is) in
    subst (λ (n : ℕ). length (g.Q.PendQueue.pairs c.index_mut.result.now) < n) (sym (room ∙ places))
    (subst (λ (w : Line). length w < c.args.self.now.room) waits c.requires.room)

pub push-requires-in-Server-clause-absent : goal.push-requires-in-Server-clause-absent
push-requires-in-Server-clause-absent g c =
    let within =
    own_within g.Q.PendQueue.pairs c.self.inside.own.items _ _ _ (lines_of c.args.self.now) c.args.queue c.in-Server.server (ap lines_of c.self.view_is) c.in-Server.is
    c.requires.within in
    let waits =
    own_waits g.Q.PendQueue.pairs g.Q.PendQueue.room c.self.inside.own.items c.self.inside.backend c.self.inside.moved _ (lines_of c.args.self.now) c.args.queue
    c.in-Server.server c.index_mut.result.now (ap lines_of c.self.view_is) c.in-Server.is within c.index_mut.ensures.value in
    subst (λ (w : Line). KeyIsAbsent key_cmp (g.Q.PendQueue.pair_of c.args.node).0 w) waits c.requires.absent

pub invariant_of-self-in-Server : goal.invariant_of-self-in-Server
invariant_of-self-in-Server g c =
    let within =
    own_within g.Q.PendQueue.pairs c.self.inside.own.items _ _ _ (lines_of c.args.self.now) c.args.queue c.in-Server.server (ap lines_of c.self.view_is) c.in-Server.is
    c.requires.within in
    rooms_kept g.Q.PendQueue.pairs g.Q.PendQueue.room _ c.self.inside.backend c.self.inside.moved _ c.in-Server.server c.index_mut.result.now _ c.self.invariant
    within c.index_mut.ensures.value c.push-in-Server.ensures.room

pub returns-in-Backend : goal.returns-in-Backend
returns-in-Backend g c =
    backend_changed g.Q.PendQueue.pairs g.Q.PendQueue.room (inserted key_cmp (g.Q.PendQueue.pair_of c.args.node)) c.self.inside.own.items c.self.inside.backend
    _ c.self.inside.moved _ (lines_of c.args.self.now) c.args.queue (ap lines_of c.self.view_is) c.in-Backend.is c.push.ensures.pairs

pub returns-in-Server : goal.returns-in-Server
returns-in-Server g c =
    let within =
    own_within g.Q.PendQueue.pairs c.self.inside.own.items _ _ _ (lines_of c.args.self.now) c.args.queue c.in-Server.server (ap lines_of c.self.view_is) c.in-Server.is
    c.requires.within in
    own_changed g.Q.PendQueue.pairs g.Q.PendQueue.room (inserted key_cmp (g.Q.PendQueue.pair_of c.args.node)) c.self.inside.own.items c.self.inside.backend
    c.self.inside.moved _ (lines_of c.args.self.now) c.args.queue c.in-Server.server c.index_mut.result.now _ (ap lines_of c.self.view_is) c.in-Server.is within
    c.index_mut.ensures.value c.push-in-Server.ensures.pairs
