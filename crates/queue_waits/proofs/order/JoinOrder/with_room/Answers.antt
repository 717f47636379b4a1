use Rattle.std.proofs.Common.{◌≡◌, ◌+◌, arith}
use Rattle.queue_waits.proofs.Cells.{made, kept, shown}
use Rattle.std.proofs.lemmas.Grind.{common_steps}
use Rattle.queue_waits.proofs.order.JoinOrder.with_room.Goals as goal

pub invariant_of-result : goal.invariant_of-result
invariant_of-result c =
    let inv = c.loop-cell.invariant in
    let all : c.loop-cell.cell ≡ c.args.room + 1 = omega (arith, c.in-Some.ensures) in
    kept _ _ _ _ (made _ _ c.args.room _ all inv.next_cells inv.previous_cells inv.leads inv.leads_back)

pub returns : goal.returns
returns c =
    let inv = c.loop-cell.invariant in
    let all : c.loop-cell.cell ≡ c.args.room + 1 = omega (arith, c.in-Some.ensures) in
    shown _ _ _ _ (made _ _ c.args.room _ all inv.next_cells inv.previous_cells inv.leads inv.leads_back)

pub loop-cell-preserved : goal.loop-cell-preserved
loop-cell-preserved c = grind (arith, common_steps)
