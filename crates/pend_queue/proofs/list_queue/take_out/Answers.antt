use Rattle.std.proofs.Common.{sym, ap, ◌∙◌, Some}
use Rattle.pend_queue.proofs.Ascending.{pair_at-absent}
use Rattle.pend_queue.proofs.Without.{without-absent}
use Rattle.pend_queue.proofs.Falling.{pair_at-reverse, reverse-remove, absent_in_gap}
use Rattle.pend_queue.proofs.list_queue.take_out.Goals as goal

-- the pair at the key's place is the key's
pub returns-in-Ok-clause-value : goal.returns-in-Ok-clause-value
returns-in-Ok-clause-value g c =
    let at = rw c.deref.ensures.value at c.in-Ok.ensures.found in
    ap Some c.remove.ensures.value ∙ sym (pair_at-reverse g.met.K.Ord.total c.args.items.now.items c.args.key.now c.in-Ok.at c.remove.result at c.requires)

pub returns-in-Ok-clause-items : goal.returns-in-Ok-clause-items
returns-in-Ok-clause-items g c =
    let at = rw c.deref.ensures.value at c.in-Ok.ensures.found in
    rw c.remove.ensures.items (reverse-remove g.met.K.Ord.total c.args.items.now.items c.args.key.now c.in-Ok.at c.remove.result at c.requires)

-- a key that has a gap is absent
pub returns-in-Err-clause-value : goal.returns-in-Err-clause-value
returns-in-Err-clause-value g c =
    let gap = rw c.deref.ensures.value at c.in-Err.ensures.absent in
    sym (pair_at-absent g.K.Ord.cmp c.args.key.now _ (absent_in_gap g.met.K.Ord.total c.args.items.now.items c.args.key.now _ gap))

pub returns-in-Err-clause-items : goal.returns-in-Err-clause-items
returns-in-Err-clause-items g c =
    let gap = rw c.deref.ensures.value at c.in-Err.ensures.absent in
    sym (without-absent g.K.Ord.cmp c.args.key.now _ (absent_in_gap g.met.K.Ord.total c.args.items.now.items c.args.key.now _ gap))
