use Rattle.std.proofs.Common.{refl}
use Rattle.slot_ledger.proofs.Counting.{ledger_includes, ledger_changed}
use Rattle.slot_ledger.proofs.ledger.Ledger.set_phase.Goals as goal

pub change_phase-requires-clause-counted : goal.change_phase-requires-clause-counted
change_phase-requires-clause-counted g c = ledger_includes c.self.inside.setup _ _ c.args.place c.row.result c.self.invariant.ledger c.row.ensures

pub invariant_of-self : goal.invariant_of-self
invariant_of-self g c = record {
  ledger = ledger_changed _ _ _ _ _ _ _ c.args.place c.row.result c.self.invariant.ledger c.row.ensures
      (λ s. refl) c.set_phase.ensures c.change_phase.ensures.passed c.change_phase.ensures.served c.change_phase.ensures.own;
  each = c.self.invariant.each;
  limited = c.self.invariant.limited;
}
