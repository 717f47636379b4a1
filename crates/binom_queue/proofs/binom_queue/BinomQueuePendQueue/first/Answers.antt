use Rattle.std.proofs.Common.{sym, ap, option_map, slice_get}
use Rattle.binom_queue.specs.Trees.{items}
use Rattle.binom_queue.proofs.Queued.{first_is}
use Rattle.binom_queue.proofs.Orders.{root_of_among}
use Rattle.binom_queue.proofs.binom_queue.BinomQueuePendQueue.first.Goals as goal

-- the least root is the least pair
pub returns-in-Some : goal.returns-in-Some
returns-in-Some g c =
    let root = c.in-Some.root.now in
    let among = root_of_among root.order c.self.inside.roots root.pair c.in-Some.ensures.found in
    let first = first_is g.met.K.Ord.total (items c.self.inside.roots) c.self.invariant.distinct root.pair among c.in-Some.ensures.least in
    rw (← c.self.view_is) (sym (ap (λ l. option_map (λ p. p.0) (slice_get l 0)) first.1))
