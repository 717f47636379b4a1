use Rattle.locked_book.specs.Turns.{WalksBlocks}
use Rattle.locked_book.proofs.book.Book.turn.Given as goal

-- the blocks before are done with
abbrev pub invariant-loop-number : goal.invariant-loop-number
invariant-loop-number g l = WalksBlocks l.moment l.number l.fn.self l.fn.woken l.self l.woken
