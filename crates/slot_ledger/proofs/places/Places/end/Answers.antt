use Rattle.std.proofs.Common.{◌<◌, None, length, ap, sym, ◌∙◌, arith}
use Rattle.std.proofs.Math.ListN.{set}
use Rattle.slot_ledger.proofs.Finding.{stands_read, stands_indexed, row_within, row_missed}
use Rattle.slot_ledger.proofs.Indexing.{kept_remove}
use Rattle.slot_ledger.proofs.Keeping.{vacant_room}
use Rattle.slot_ledger.proofs.places.Places.end.Goals as goal

pub index_mut-requires : goal.index_mut-requires
index_mut-requires g c = let within : c.args.place < length c.self.inside.cells.items = row_within _ _ c.args.place c.self.view_is c.requires in omega arith

pub unreachable-requires : goal.unreachable-requires
unreachable-requires g c = row_missed _ _ c.args.place _ c.self.view_is c.requires c.index_mut.ensures.value (sym c.take.ensures.value ∙ c.in_default.is)

pub remove-requires : goal.remove-requires
remove-requires g c = stands_indexed _ _ _ _ _ _ c.self.invariant
    (stands_read _ _ _ _ _ c.self.view_is c.requires c.index_mut.ensures.value (sym c.take.ensures.value ∙ c.in-Some.is))

pub invariant_of-self : goal.invariant_of-self
invariant_of-self g c =
    let stands = stands_read _ _ _ _ _ c.self.view_is c.requires c.index_mut.ensures.value (sym c.take.ensures.value ∙ c.in-Some.is) in
    kept_remove _ _ _ _ _ _ _ _ _ _ c.self.invariant c.take.ensures.after stands c.push_reserved.ensures.items c.push_reserved.ensures.capacity
    c.remove.ensures.removed c.remove.ensures.room

pub push_reserved-requires : goal.push_reserved-requires
push_reserved-requires g c =
    let stands = stands_read _ _ _ _ _ c.self.view_is c.requires c.index_mut.ensures.value (sym c.take.ensures.value ∙ c.in-Some.is) in
    let room = vacant_room _ _ _ _ c.args.place c.in-Some.cell c.self.invariant stands in
    omega arith

pub returns : goal.returns
returns g c = rw c.take.ensures.after (ap (λ l. set l c.args.place None) c.self.view_is)
