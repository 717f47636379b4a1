use Rattle.std.proofs.Common.{refl, sym, subst}
use Rattle.slot_ledger.specs.Ledgers.{Kept}
use Rattle.slot_ledger.specs.Cells.{HasRow}
use Rattle.slot_ledger.proofs.Counting.{ledger_same}
use Rattle.slot_ledger.proofs.ledger.Ledger.unpin.Goals as goal

pub invariant_of-self : goal.invariant_of-self
invariant_of-self g c = record {
  ledger = ledger_same _ _ _ _ _ c.args.place c.self.invariant.ledger (subst (λ (k : Kept _). HasRow k.cells c.args.place) (sym c.self.view_is) c.requires)
      (λ s. refl) c.unpin.ensures;
  each = c.self.invariant.each;
  limited = c.self.invariant.limited;
}
