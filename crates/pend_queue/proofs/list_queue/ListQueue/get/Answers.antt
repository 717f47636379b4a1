use Rattle.std.proofs.Common.{ap, sym, ◌∙◌, Some, option_map}
use Rattle.pend_queue.proofs.Ascending.{pair_at-absent}
use Rattle.pend_queue.proofs.Falling.{pair_at-reverse, absent_in_gap}
use Rattle.pend_queue.proofs.list_queue.ListQueue.get.Goals as goal

-- the pair at the key's place is the key's
pub returns-in-Ok : goal.returns-in-Ok
returns-in-Ok g c =
    let at = rw c.deref.ensures.value at c.in-Ok.ensures.found in
    rw (← c.self.view_is) (ap (λ p. Some p.1) c.index.ensures
    ∙ sym (ap (option_map (λ p. p.1)) (pair_at-reverse g.met.K.Ord.total c.self.inside.items.items c.args.key.now c.in-Ok.at c.index.result.now at
    c.self.invariant)))

-- a key that has a gap is absent
pub returns-in-Err : goal.returns-in-Err
returns-in-Err g c =
    let gap = rw c.deref.ensures.value at c.in-Err.ensures.absent in
    rw (← c.self.view_is) (sym (ap (option_map (λ p. p.1))
    (pair_at-absent g.K.Ord.cmp c.args.key.now _ (absent_in_gap g.met.K.Ord.total c.self.inside.items.items c.args.key.now _ gap))))
