use Rattle.shared_desk.specs.Seats.{IsSameSeat}
use Rattle.test_book.proofs.desks.threads.come_and_go.Given as goal

abbrev pub invariant-loop-number : goal.invariant-loop-number
invariant-loop-number g l = IsSameSeat l.initial.relay l.relay
