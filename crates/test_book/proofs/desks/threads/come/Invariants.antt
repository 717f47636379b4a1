use Rattle.shared_desk.specs.Seats.{IsSameSeat}
use Rattle.test_book.proofs.desks.threads.come.Given as goal

abbrev pub invariant-loop : goal.invariant-loop
invariant-loop g l = IsSameSeat l.initial.relay l.relay
