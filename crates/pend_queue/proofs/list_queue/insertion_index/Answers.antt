use Rattle.std.proofs.Common.{rules}
use Rattle.std.proofs.lemmas.Fn.{always_returns_same}
use Rattle.pend_queue.proofs.Falling.{searched}
use Rattle.pend_queue.proofs.list_queue.insertion_index.Goals as goal

-- the closure compares the key with a pair's
pub returns : goal.returns
returns g c =
    let facts = c.binary_search_by.ensures in
    let by_key = facts.position (λ p. g.K.Ord.cmp c.args.key.now p.0) (always_returns_same _ _ _ (λ a r h called. search rules)) in
    searched g.met.K.Ord.total c.args.items.now c.requires c.args.key.now _ facts.bound by_key
