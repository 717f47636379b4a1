use Rattle.std.proofs.Common.{arith}
use Rattle.std.specs.Mem.Slots.{slots_items}
use Rattle.grant_board.proofs.Ending.{nonzero-no, nonzero-yes, counts_on}
use Rattle.grant_board.proofs.opening.left_over.Goals as goal
use Rattle.grant_board.proofs.opening.left_over.Goals.{then-word-ne0, else-word-ne0}

pub loop-i-preserved : goal.loop-i-preserved
loop-i-preserved c =
    let before = c.loop-i.invariant in
    let on = counts_on (slots_items c.args.closed.now.words) c.loop-i.i c.word.result c.loop-i.left c.word.ensures before.0 in
    elim c.if-word-ne0.branch [
      | then-word-ne0 w ↦ (omega (arith, on, w.left-is, nonzero-yes c.word.result w.if-word-ne0.true), omega (arith, before.1, w.left-is))
      | else-word-ne0 w ↦ (omega (arith, on, w.left-is, nonzero-no c.word.result w.if-word-ne0.false), omega (arith, before.1, w.left-is))
    ]
