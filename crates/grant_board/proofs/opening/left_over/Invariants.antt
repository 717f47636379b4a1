use Rattle.std.proofs.Common.{◌≡◌, ◌≤◌, take}
use Rattle.std.specs.Mem.Slots.{slots_items}
use Rattle.base_lists.specs.Weights.{total}
use Rattle.grant_board.specs.BoardWords.{nonzero}
use Rattle.grant_board.proofs.opening.left_over.Given as goal

abbrev pub invariant-loop-i : goal.invariant-loop-i
invariant-loop-i l = (l.left ≡ total nonzero (take l.i (slots_items l.closed.words))) × (l.left ≤ l.i)
