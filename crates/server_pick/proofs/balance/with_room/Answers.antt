use Rattle.std.proofs.Common.{length, subst}
use Rattle.slot_ledger.specs.Ledgers.{scene_in}
use Rattle.server_pick.specs.Order.{HasRoomBut}
use Rattle.log_entries.proofs.Choices.{room_there}
use Rattle.server_pick.proofs.Filled.{IsFilled, filled_step, filled_all, loop_end}
use Rattle.server_pick.proofs.balance.with_room.Goals as goal

pub filling-preserved : goal.filling-preserved
filling-preserved g c = filled_step _ c.filling.server c.has_room_but.result _ _ c.has_room_but.ensures c.insert_if.ensures c.filling.invariant

pub returns : goal.returns
returns g c =
    let scene = scene_in c.args.ledger.now in
    let all = loop_end c.setup.result.now c.args.ledger.now.setup _ _ c.setup.ensures.setup c.len-server-end.ensures c.filling-test.false
    c.filling.auto.server-end in
    filled_all (HasRoomBut scene c.args.avoid) (length scene.servers) _ (λ server has. room_there scene server has.0)
    (subst (λ n. IsFilled (HasRoomBut scene c.args.avoid) n c.filling.set) all c.filling.invariant)
