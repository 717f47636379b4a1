use Rattle.std.proofs.Common.{◌<◌, ◌≤◌, ℕ}
use Rattle.due_key.specs.declared.key.Key.{Key}
use Rattle.due_key.specs.Order.{key_cmp}
use Rattle.pend_queue.proofs.Inserted.{AllByRecursion-inserted}
use Rattle.pend_queue.proofs.Without.{absent_from_without, AllByRecursion-without}
use Rattle.test_queues.proofs.lists.put.Goals as goal

-- a key that was removed is absent
pub push-requires-clause-absent : goal.push-requires-clause-absent
push-requires-clause-absent g c = rw (c.node_of-node.ensures, c.remove.ensures.pairs) (absent_from_without key_cmp c.args.pair.0 _)

pub returns-clause-tickets : goal.returns-clause-tickets
returns-clause-tickets g c =
    let in_range = λ (p : Key × ℕ). (c.args.tickets.0 ≤ p.0.ticket) × (p.0.ticket < c.args.tickets.1) in
    rw (c.push.ensures.pairs, c.remove.ensures.pairs, c.node_of-node.ensures)
    (AllByRecursion-inserted key_cmp in_range c.args.pair _ c.requires.range
    (AllByRecursion-without key_cmp in_range c.args.pair.0 _ c.requires.tickets))
