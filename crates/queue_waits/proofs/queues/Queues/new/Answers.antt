use Rattle.std.proofs.Common.{rules}
use Rattle.queue_waits.proofs.Queueing.{new_more}
use Rattle.queue_waits.proofs.queues.Queues.new.Goals as goal

pub loop-server-preserved : goal.loop-server-preserved
loop-server-preserved g c =
    let before = c.loop-server.invariant in
    let more = new_more _ g.Q.PendQueue.pairs g.Q.PendQueue.room c.loop-server.own.items _ c.loop-server.server c.args.places c.in_ok-with_room.field-0
    (record { empty = before.empty; rooms = before.rooms; count = before.count }) c.push_reserved.ensures.items c.in_ok-with_room.ensures.empty
    c.in_ok-with_room.ensures.room in
    record { empty = more.empty; rooms = more.rooms; count = more.count; room = search rules }
