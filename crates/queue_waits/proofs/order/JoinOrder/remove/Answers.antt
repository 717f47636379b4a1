use Rattle.std.proofs.Common.{◌<◌, length, ap, ◌∙◌, arith, length-set}
use Rattle.queue_waits.specs.Order.{Order, with_places, places_without}
use Rattle.queue_waits.proofs.Cells.{place_within, neighbours_within, removal, kept, shown}
use Rattle.queue_waits.proofs.order.JoinOrder.remove.Goals as goal

pub index-before-requires : goal.index-before-requires
index-before-requires c =
    let low : c.args.place < c.self.inside.room = place_within _ _ _ _ c.self.view_is c.self.invariant _ c.requires in
    let cells = c.self.invariant.previous_cells in
    omega arith

pub index-after-requires : goal.index-after-requires
index-after-requires c =
    let low : c.args.place < c.self.inside.room = place_within _ _ _ _ c.self.view_is c.self.invariant _ c.requires in
    let cells = c.self.invariant.next_cells in
    omega arith

pub link-requires-clause-from : goal.link-requires-clause-from
link-requires-clause-from c =
    let low = (neighbours_within _ _ _ _ c.self.view_is c.self.invariant _ c.requires _ _ c.index-before.ensures c.index-after.ensures).0 in
    let cells = c.self.invariant.next_cells in
    omega arith

pub link-requires-clause-to : goal.link-requires-clause-to
link-requires-clause-to c =
    let low = (neighbours_within _ _ _ _ c.self.view_is c.self.invariant _ c.requires _ _ c.index-before.ensures c.index-after.ensures).1 in
    let cells = c.self.invariant.previous_cells in
    omega arith

pub index_mut-requires : goal.index_mut-requires
index_mut-requires c =
    let low : c.args.place < c.self.inside.room = place_within _ _ _ _ c.self.view_is c.self.invariant _ c.requires in
    let cells = c.self.invariant.next_cells in
    let same = ap length c.link.ensures.next ∙ length-set c.self.inside.next.items c.index-before.result.now c.index-after.result.now in
    omega arith

pub invariant_of-self : goal.invariant_of-self
invariant_of-self c =
    kept _ _ _ _
    (removal _ _ _ _ c.self.view_is c.self.invariant _ c.requires _ _ c.index-before.ensures c.index-after.ensures _ _ c.link.ensures.next
    c.link.ensures.previous)

pub returns : goal.returns
returns c =
    shown _ _ _ _
    (removal _ _ _ _ c.self.view_is c.self.invariant _ c.requires _ _ c.index-before.ensures c.index-after.ensures _ _ c.link.ensures.next
    c.link.ensures.previous) ∙ ap (λ (order : Order). with_places order (places_without c.args.place c.args.self.now.places)) c.self.view_is
