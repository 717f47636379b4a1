use Rattle.std.proofs.Common.{◌<◌, length, arith, ap, sym, slice_get, ◌∙◌, refl}
use Rattle.slot_ledger.proofs.Finding.{stands_read, row_within, row_missed}
use Rattle.slot_ledger.proofs.places.Places.row.Goals as goal

pub index-requires : goal.index-requires
index-requires g c = let within : c.args.place < length c.self.inside.cells.items = row_within _ _ c.args.place c.self.view_is c.requires in omega arith

pub unreachable-requires : goal.unreachable-requires
unreachable-requires g c = row_missed _ _ c.args.place _ c.self.view_is c.requires c.index.ensures c.in-None.is

pub returns : goal.returns
returns g c =
    let stands = stands_read _ _ _ _ c.in-Some.cell c.self.view_is c.requires c.index.ensures c.in-Some.is in
    (c.in-Some.cell, ap (λ l. slice_get l c.args.place) (sym c.self.view_is) ∙ stands, refl)
