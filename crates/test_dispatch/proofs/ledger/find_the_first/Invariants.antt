use Rattle.slot_ledger.specs.Cells.{AreBelow}
use Rattle.test_dispatch.proofs.ledger.find_the_first.Given as goal

abbrev pub invariant-loop-ticket : goal.invariant-loop-ticket
invariant-loop-ticket g l = AreBelow l.ticket l.ledger.cells
