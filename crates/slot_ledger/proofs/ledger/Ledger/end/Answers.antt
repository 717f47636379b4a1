use Rattle.std.proofs.Common.{refl, ap}
use Rattle.log_entries.specs.declared.row.Row.{Row}
use Rattle.slot_ledger.proofs.Counting.{ledger_includes, ledger_passed}
use Rattle.slot_ledger.proofs.ledger.Ledger.end.Goals as goal

pub change_phase-requires-clause-counted : goal.change_phase-requires-clause-counted
change_phase-requires-clause-counted g c = ledger_includes c.self.inside.setup _ _ c.args.place c.row-from.result c.self.invariant.ledger c.row-from.ensures

pub invariant_of-self : goal.invariant_of-self
invariant_of-self g c = record {
  ledger = ledger_passed _ _ _ _ _ c.args.place _ _ _ _ c.self.invariant.ledger c.row-from.ensures.1
      (ap (λ (r : Row). r.phase) c.row-from.ensures.2) refl c.end.ensures c.change_phase.ensures.passed c.change_phase.ensures.served c.change_phase.ensures.own;
  each = c.self.invariant.each;
  limited = c.self.invariant.limited;
}
