use Rattle.std.proofs.Common.{length, subst}
use Rattle.log_entries.specs.Grants.{CanTake}
use Rattle.log_entries.proofs.Choices.{free_there}
use Rattle.slot_ledger.specs.Ledgers.{scene_in}
use Rattle.server_pick.proofs.Filled.{IsFilled, filled_step, filled_all, loop_end}
use Rattle.server_pick.proofs.takers.takers.Goals as goal

pub filling-preserved : goal.filling-preserved
filling-preserved g c = filled_step (CanTake
    (scene_in c.args.ledger.now)) c.filling.server c.can_take.result _ _ c.can_take.ensures c.insert_if.ensures c.filling.invariant

pub returns : goal.returns
returns g c =
    let scene = scene_in c.args.ledger.now in
    let all = loop_end c.setup.result.now c.args.ledger.now.setup _ _ c.setup.ensures.setup c.len-server-end.ensures c.filling-test.false
    c.filling.auto.server-end in
    filled_all (CanTake scene) (length scene.servers) _ (λ server can. free_there scene server can.0)
    (subst (λ n. IsFilled (CanTake scene) n c.filling.set) all c.filling.invariant)
