use Rattle.std.proofs.Common.{◌↔◌, IsTrue}
use Rattle.dispatch_state.specs.Histories.{HasEntryRoom}
use Rattle.locked_book.proofs.Walking.{IsWalking}
use Rattle.locked_book.proofs.book.Book.turn_block.Given as goal

-- the block's places before those ahead are done with
abbrev pub invariant-loop-place : goal.invariant-loop-place
invariant-loop-place g l =
    IsWalking l.moment l.number g.N.BoardName.terms.places l.fn.self l.fn.woken l.self l.woken l.ahead
    × (IsTrue l.room ↔ HasEntryRoom l.self.history)

abbrev pub decreases-loop-place : goal.decreases-loop-place
decreases-loop-place g l = l.ahead.bits
