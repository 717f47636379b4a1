use Rattle.std.proofs.Common.{◌<◌, length, refl, arith}
use Rattle.slot_ledger.proofs.Finding.{stands_read, row_within, row_missed, row_changed}
use Rattle.slot_ledger.proofs.Keeping.{kept_change}
use Rattle.slot_ledger.proofs.places.Places.loosen.Goals as goal

pub index_mut-requires : goal.index_mut-requires
index_mut-requires g c = let within : c.args.place < length c.self.inside.cells.items = row_within _ _ c.args.place c.self.view_is c.requires in omega arith

pub unreachable-requires : goal.unreachable-requires
unreachable-requires g c = row_missed _ _ c.args.place _ c.self.view_is c.requires c.index_mut.ensures.value c.in_default.is

pub invariant_of-self : goal.invariant_of-self
invariant_of-self g c = kept_change _ _ _ _ c.args.place c.in-Some.cell _ c.self.invariant
    (stands_read _ _ _ _ _ c.self.view_is c.requires c.index_mut.ensures.value c.in-Some.is) refl

pub returns : goal.returns
returns g c =
    let stands = stands_read _ _ _ _ _ c.self.view_is c.requires c.index_mut.ensures.value c.in-Some.is in
    row_changed _ _ _ _ c.in-Some.cell c.self.view_is stands
