use Rattle.std.proofs.Common.{◌+◌, arith}
use Rattle.test_dispatch.proofs.ledger.find_the_first.Goals as goal
use Rattle.test_dispatch.proofs.ledger.find_the_first.Goals.{then-ticket-gt2, else-ticket-gt2}

pub loop-ticket-init : goal.loop-ticket-init
loop-ticket-init g c = c.admit-place.ensures 1 (omega arith)

pub loop-ticket-preserved : goal.loop-ticket-preserved
loop-ticket-preserved g c =
    let below = c.admit.ensures (c.loop-ticket.ticket + 1) (omega arith) in
    elim c.if-ticket-gt2.branch [
      | then-ticket-gt2 w ↦ rw w.ledger-is (w.end.ensures (c.loop-ticket.ticket + 1) below)
      | else-ticket-gt2 w ↦ rw w.ledger-is below
    ]
