use Rattle.std.proofs.Common.{◌<◌, ◌≤◌, ℕ, nat_cmp}
use Rattle.pend_queue.proofs.Inserted.{AllByRecursion-inserted}
use Rattle.pend_queue.proofs.Without.{absent_from_without, AllByRecursion-without}
use Rattle.test_queues.proofs.trees.put.Goals as goal

-- a key that was removed is absent
pub push-requires-clause-absent : goal.push-requires-clause-absent
push-requires-clause-absent g c = rw (c.node_of-node.ensures, c.remove.ensures.pairs) (absent_from_without nat_cmp c.args.key _)

pub returns-clause-keys : goal.returns-clause-keys
returns-clause-keys g c =
    let in_range = λ (p : ℕ × ℕ). (c.args.range.0 ≤ p.0) × (p.0 < c.args.range.1) in
    rw (c.push.ensures.pairs, c.remove.ensures.pairs, c.node_of-node.ensures)
    (AllByRecursion-inserted nat_cmp in_range (c.args.key, _) _ c.requires.range (AllByRecursion-without nat_cmp in_range c.args.key _ c.requires.keys))
