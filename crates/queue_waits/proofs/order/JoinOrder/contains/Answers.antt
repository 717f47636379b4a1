use Rattle.queue_waits.proofs.Cells.{tells, none_above}
use Rattle.queue_waits.proofs.order.JoinOrder.contains.Goals as goal

pub returns-then-place-self : goal.returns-then-place-self
returns-then-place-self c = tells _ _ _ _ c.self.view_is c.self.invariant c.args.place c.index.result.now c.index.ensures c.if-place-self.true

pub returns-else-place-self : goal.returns-else-place-self
returns-else-place-self c = none_above _ _ _ _ c.self.view_is c.self.invariant c.args.place c.if-place-self.false
