use Rattle.std.proofs.Common.{◌<◌, length, sym, subst, arith}
use Rattle.slot_ledger.proofs.Finding.{cell_read}
use Rattle.slot_ledger.proofs.places.Places.cell.Goals as goal

pub index-requires : goal.index-requires
index-requires g c =
    let within : c.args.place < length c.self.inside.cells.items = subst (λ l. c.args.place < length l) (sym c.self.view_is) c.requires in
    omega arith

pub returns-in-Some : goal.returns-in-Some
returns-in-Some g c = cell_read _ _ c.args.place _ _ c.self.view_is c.requires c.index.ensures c.in-Some.is

pub returns-in-None : goal.returns-in-None
returns-in-None g c = cell_read _ _ c.args.place _ _ c.self.view_is c.requires c.index.ensures c.in-None.is
