use Rattle.queue_outside.proofs.Outsiders.{room_left}
use Rattle.queue_outside.proofs.room.OutsideOrder.leave.Goals as goal

pub invariant_of-self : goal.invariant_of-self
invariant_of-self g c = rw (c.remove.ensures.pairs, c.remove.ensures.room) (room_left _ _ _ _ c.args.key c.self.invariant)

pub invariant_of-self-2 : goal.invariant_of-self-2
invariant_of-self-2 g c = rw (c.remove.ensures.pairs, c.remove.ensures.room) (room_left _ _ _ _ c.args.key c.self.invariant)
