use Rattle.std.proofs.Common.{refl}
use Rattle.slot_ledger.proofs.Counting.{ledger_passed}
use Rattle.slot_ledger.proofs.ledger.Ledger.admit.Goals as goal

pub invariant_of-self : goal.invariant_of-self
invariant_of-self g c = record {
  ledger = ledger_passed _ _ _ _ _ c.admit.result _ _ _ _ c.self.invariant.ledger c.admit.ensures.vacant refl refl c.admit.ensures.admitted
      c.change_phase.ensures.passed c.change_phase.ensures.served c.change_phase.ensures.own;
  each = c.self.invariant.each;
  limited = c.self.invariant.limited;
}
