use Rattle.std.proofs.Common.{◌≡◌, ap, ◌∙◌, insert, if◌then◌else◌, is_ok, true}
use Rattle.pend_queue.proofs.Falling.{present_at, reverse-insert}
use Rattle.pend_queue.proofs.list_queue.put.Goals as goal

-- the key would be there twice
pub unreachable-requires : goal.unreachable-requires
unreachable-requires g c =
    present_at g.met.K.Ord.total c.args.items.now.items c.args.pair.0 c.in-Ok.field-0 c.args.pair
    (rw c.deref.ensures.value at c.in-Ok.ensures.found) c.requires.absent

-- there is room, so the pair goes into the gap
pub returns-clause-items : goal.returns-clause-items
returns-clause-items g c =
    let done : is_ok c.insert.result ≡ true = c.insert.ensures.succeeds c.requires.room in
    let put : c.insert.new.self.items ≡ insert c.args.items.now.items c.in-Err.at c.args.pair = c.insert.ensures.items
    ∙ ap (λ b. if b then insert c.args.items.now.items c.in-Err.at c.args.pair else c.args.items.now.items) done in
    rw put (reverse-insert g.met.K.Ord.total c.args.items.now.items c.args.pair c.in-Err.at (rw c.deref.ensures.value at c.in-Err.ensures.absent))
