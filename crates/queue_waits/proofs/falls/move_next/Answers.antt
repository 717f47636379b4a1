use Rattle.std.proofs.Common.{◌+◌, ◌∙◌, arith}
use Rattle.queue_waits.specs.Lines.{lines_of}
use Rattle.queue_waits.proofs.Falling.{falls_next, falls_over}
use Rattle.queue_waits.proofs.falls.move_next.Goals as goal

pub returns-then-fall-len-clause-moved : goal.returns-then-fall-len-clause-moved
returns-then-fall-len-clause-moved g c =
    falls_over (lines_of c.args.queues.now) _ c.args.fall.now (c.args.fall.now.told + 1) c.requires (omega (arith, c.if-fall-len.true, c.len.ensures)) c.take_over.ensures.merged
    ∙ falls_next (lines_of c.args.queues.now) c.args.fall.now c.requires c.args.fall.now.told c.index-pair.result.now c.requires.left c.index-pair.ensures

pub returns-else-fall-len-clause-moved : goal.returns-else-fall-len-clause-moved
returns-else-fall-len-clause-moved g c =
    falls_next (lines_of c.args.queues.now) c.args.fall.now c.requires c.args.fall.now.told c.index-pair.result.now c.requires.left c.index-pair.ensures
