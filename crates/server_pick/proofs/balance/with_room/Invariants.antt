use Rattle.slot_ledger.specs.Ledgers.{scene_in}
use Rattle.server_pick.specs.Order.{HasRoomBut}
use Rattle.server_pick.proofs.Filled.{IsFilled}
use Rattle.server_pick.proofs.balance.with_room.Given as goal

-- the servers so far that pass
abbrev pub invariant-filling : goal.invariant-filling
invariant-filling g l = IsFilled (HasRoomBut (scene_in l.ledger) l.avoid) l.server l.set
