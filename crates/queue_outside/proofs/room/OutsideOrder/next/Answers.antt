use Rattle.std.proofs.Common.{Some, ◌∙◌, ap}
use Rattle.queue_outside.proofs.Outsiders.{all_behind}
use Rattle.queue_outside.proofs.room.OutsideOrder.next.Goals as goal

pub returns-clause-order : goal.returns-clause-order
returns-clause-order g c =
    rw c.pop.ensures.pairs (all_behind _ c.into_pair.result c.self.invariant.ascending (ap Some c.into_pair.ensures ∙ c.in_ok-node.ensures.value))
