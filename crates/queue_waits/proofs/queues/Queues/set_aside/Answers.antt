use Rattle.std.proofs.Common.{◌≡◌, map, ap, subst}
use Rattle.due_key.specs.Order.{key_cmp}
use Rattle.pend_queue.specs.Pairs.{inserted}
use Rattle.queue_waits.specs.Lines.{Line, Lined, with_moved, lines_of}
use Rattle.queue_waits.proofs.queues.Queues.set_aside.Goals as goal

pub returns-clause-aside : goal.returns-clause-aside
returns-clause-aside g c =
    let with_it : Line
    → Lined = λ m. record {
      own = map g.Q.PendQueue.pairs c.self.inside.own.items;
      backend = g.Q.PendQueue.pairs c.self.inside.backend;
      moved = m;
      room =
          c.self.inside.places;
    } in
    subst (λ (l : Lined). with_it (g.Q.PendQueue.pairs c.push.new.self) ≡ with_moved l (inserted key_cmp (g.Q.PendQueue.pair_of c.args.node) l.moved))
    (ap lines_of c.self.view_is)
    (ap with_it c.push.ensures.pairs)
