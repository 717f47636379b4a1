-- The result for a seat without a pass that asked for a ticket: the seat, and the answer.
use Rattle.grant_board.specs.declared.board.BoardName.{Ghosts}
use Rattle.grant_board.specs.RelayCalls.{Relay}
use Rattle.grant_board.specs.declared.pass.Taking.{Taking}
use Rattle.grant_board.specs.declared.pass.Taking.TheVariants as taking
use Rattle.board_seats.specs.declared.asking.TakeResult.{TakeResult}
use Rattle.board_seats.specs.declared.asking.TakeResult.TheVariants.{Held, NotYet}

abbrev pub seat_of : {N : Type 0} {G : Ghosts N} → TakeResult N G → Relay
seat_of (Held held) = held.seat
seat_of (NotYet idle) = idle.seat

abbrev pub taking_of : {N : Type 0} {G : Ghosts N} → TakeResult N G → Taking
taking_of (Held held) = taking.Taken held.pass
taking_of (NotYet idle) = taking.NotYet
