use Rattle.std.proofs.Common.{◌≡◌, ℕ, List, drop, ◌∙◌, ap, sym, subst}
use Rattle.due_key.specs.declared.key.Key.{Key}
use Rattle.due_key.specs.Order.{key_cmp}
use Rattle.pend_queue.specs.Pairs.{inserted}
use Rattle.queue_outside.specs.Rooms.{Outsiders, IsOutsideOrder}
use Rattle.queue_outside.proofs.Outsiders.{first_back}
use Rattle.queue_outside.proofs.room.OutsideOrder.first.Goals as goal

pub push-requires-clause-absent : goal.push-requires-clause-absent
push-requires-clause-absent g c = rw c.pop.ensures.pairs (first_back (g.Q.PendQueue.pairs c.self.inside.queue) (g.Q.PendQueue.pair_of c.in_ok-node.node) c.self.invariant.ascending c.in_ok-node.ensures.value).absent

pub invariant_of-self-2 : goal.invariant_of-self-2
invariant_of-self-2 g c =
    let same = c.push.ensures.pairs ∙ ap (λ (l : List (Key × ℕ)). inserted key_cmp (g.Q.PendQueue.pair_of c.in_ok-node.node) l) c.pop.ensures.pairs
    ∙ (first_back (g.Q.PendQueue.pairs c.self.inside.queue) (g.Q.PendQueue.pair_of c.in_ok-node.node) c.self.invariant.ascending c.in_ok-node.ensures.value).same in
    rw (c.push.ensures.room, c.pop.ensures.room)
    (subst (λ (l : List (Key × ℕ)). IsOutsideOrder l (g.Q.PendQueue.room c.self.inside.queue) c.self.inside.room c.self.inside.number) (sym same) c.self.invariant)

pub returns-clause-same : goal.returns-clause-same
returns-clause-same g c =
    let same = c.push.ensures.pairs ∙ ap (λ (l : List (Key × ℕ)). inserted key_cmp (g.Q.PendQueue.pair_of c.in_ok-node.node) l) c.pop.ensures.pairs
    ∙ (first_back (g.Q.PendQueue.pairs c.self.inside.queue) (g.Q.PendQueue.pair_of c.in_ok-node.node) c.self.invariant.ascending c.in_ok-node.ensures.value).same in
    ap (λ (l : List (Key × ℕ)). record { pairs = l; room = c.self.inside.room; number = c.self.inside.number }) same ∙ c.self.view_is
