use Rattle.std.proofs.Common.{drop}
use Rattle.locked_book.proofs.Paying.{IsPaying}
use Rattle.locked_book.proofs.offering.offer_from.Given as goal

-- the entries from the number on are still to be gone through
abbrev pub invariant-loop-number : goal.invariant-loop-number
invariant-loop-number g l = IsPaying l.core l.fn.keeping l.fn.woken (drop l.fn.from l.core.log) l.keeping l.woken (drop l.number l.core.log)
