use Rattle.std.proofs.Common.{◌<◌, length, refl, ap, slice_get, sym, ◌∙◌, arith}
use Rattle.slot_ledger.proofs.Finding.{stands_read, row_within, row_missed, row_changed, node_missed}
use Rattle.slot_ledger.proofs.Keeping.{kept_change}
use Rattle.slot_ledger.proofs.places.Places.wait.Goals as goal

pub index_mut-requires : goal.index_mut-requires
index_mut-requires g c =
    let within : c.args.place < length c.self.inside.cells.items = row_within _ _ c.args.place c.self.view_is (c.requires.0, c.requires.2) in
    omega arith

pub unreachable-requires : goal.unreachable-requires
unreachable-requires g c =
    let stands = stands_read _ _ _ _ _ c.self.view_is (c.requires.0, c.requires.2) c.index_mut.ensures.value c.in-Some.is in
    node_missed _ _ c.args.place c.in-Some.cell c.self.view_is c.requires stands (sym c.take.ensures.value ∙ c.in-None-take.is)

pub unreachable-requires-in-None : goal.unreachable-requires-in-None
unreachable-requires-in-None g c = row_missed _ _ c.args.place _ c.self.view_is (c.requires.0, c.requires.2) c.index_mut.ensures.value c.in-None.is

pub invariant_of-self : goal.invariant_of-self
invariant_of-self g c = kept_change _ _ _ _ c.args.place c.in-Some.cell _ c.self.invariant
    (stands_read _ _ _ _ _ c.self.view_is (c.requires.0, c.requires.2) c.index_mut.ensures.value c.in-Some.is) refl

pub returns-clause-node : goal.returns-clause-node
returns-clause-node g c =
    let stands = stands_read _ _ _ _ _ c.self.view_is (c.requires.0, c.requires.2) c.index_mut.ensures.value c.in-Some.is in
    (c.in-Some.cell, ap (λ l. slice_get l c.args.place) (sym c.self.view_is) ∙ stands, sym c.take.ensures.value ∙ c.in-Some-take.is)

pub returns-clause-waiting : goal.returns-clause-waiting
returns-clause-waiting g c =
    let stands = stands_read _ _ _ _ _ c.self.view_is (c.requires.0, c.requires.2) c.index_mut.ensures.value c.in-Some.is in
    rw c.take.ensures.after (row_changed _ _ _ _ c.in-Some.cell c.self.view_is stands)
