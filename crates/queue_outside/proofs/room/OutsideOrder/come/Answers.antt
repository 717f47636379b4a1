use Rattle.std.proofs.Common.{◌≡◌, ◌<◌, ◌+◌, ℕ, List, length, ◌∙◌, sym, ap, subst}
use Rattle.due_key.specs.declared.key.Key.{Key}
use Rattle.due_key.specs.Order.{key_cmp}
use Rattle.pend_queue.specs.Pairs.{KeyIsAbsent, inserted}
use Rattle.queue_outside.specs.Rooms.{Outsiders, IsOutsideOrder, came}
use Rattle.queue_outside.proofs.Outsiders.{new_ticket, room_came, not_full}
use Rattle.queue_outside.proofs.room.OutsideOrder.come.Goals as goal

pub push-requires-clause-absent : goal.push-requires-clause-absent
push-requires-clause-absent g c =
    subst (λ (p : Key × ℕ). KeyIsAbsent key_cmp p.0 (g.Q.PendQueue.pairs c.self.inside.queue)) (sym c.in-Ok.ensures.ok)
    (new_ticket c.key.result c.self.inside.number _ (ap (λ (k : Key). k.ticket) c.key.ensures.key) c.self.invariant.before)

pub invariant_of-self : goal.invariant_of-self
invariant_of-self g c =
    let fits = subst (λ (it : Outsiders). length it.pairs < it.room) (sym c.self.view_is) (not_full c.args.self.now c.is_full.result c.is_full.ensures c.if-is_full.false) in
    let ticket = ap (λ (k : Key). k.ticket) c.key.ensures.key in
    let it = room_came _ _ _ _ c.key.result c.args.outsider c.self.invariant ticket fits in
    let pairs = c.push.ensures.pairs ∙ ap (λ (p : Key × ℕ). inserted key_cmp p (g.Q.PendQueue.pairs c.self.inside.queue)) c.in-Ok.ensures.ok in
    rw c.push.ensures.room
    (subst (λ (l : List (Key × ℕ)). IsOutsideOrder l (g.Q.PendQueue.room c.self.inside.queue) c.self.inside.room (c.self.inside.number + 1)) (sym pairs) it)

pub returns-clause-ok : goal.returns-clause-ok
returns-clause-ok g c =
    let same : c.pair.result.0.now ≡ c.key.result = ap (λ (p : Key × ℕ). p.0) (sym c.pair.ensures ∙ c.in-Ok.ensures.ok) in
    let node = c.in-Ok.ensures.ok ∙ ap (λ (k : Key). (k, c.args.outsider)) (sym same) in
    let pairs = c.push.ensures.pairs ∙ ap (λ (p : Key × ℕ). inserted key_cmp p (g.Q.PendQueue.pairs c.self.inside.queue)) node in
    ap (λ (l : List (Key × ℕ)). record { pairs = l; room = c.self.inside.room; number = c.self.inside.number + 1 }) pairs
    ∙ ap (λ (it : Outsiders). came it c.pair.result.0.now c.args.outsider) c.self.view_is
