use Rattle.std.proofs.Common.{sym, subst, arith}
use Rattle.slot_ledger.specs.Ledgers.{Kept}
use Rattle.slot_ledger.specs.Cells.{AreBelow}
use Rattle.test_dispatch.proofs.ledger.find_both.Goals as goal

pub pass-requires : goal.pass-requires
pass-requires g c = c.admit-first.ensures 9 (omega arith)

pub admit-second-requires : goal.admit-second-requires
admit-second-requires g c = subst (λ (k : Kept _). AreBelow 5 k.cells) (sym c.pass.ensures) (c.admit-first.ensures 5 (omega arith))
