use Rattle.queue_waits.proofs.Cells.{is_order}
use Rattle.queue_waits.proofs.order.JoinOrder.first.Goals as goal

pub returns-else-at-self-clause-order : goal.returns-else-at-self-clause-order
returns-else-at-self-clause-order c = is_order _ _ _ _ c.self.view_is c.self.invariant
