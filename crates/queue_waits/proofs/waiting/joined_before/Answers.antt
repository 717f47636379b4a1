use Rattle.std.proofs.Common.{ap, sym}
use Rattle.queue_waits.specs.Waitlists.{since_before}
use Rattle.queue_waits.proofs.waiting.joined_before.Goals as goal

pub returns-in-None : goal.returns-in-None
returns-in-None c = ap since_before (sym c.in-None.is)

pub returns-in-Some : goal.returns-in-Some
returns-in-Some c = ap since_before (sym c.in-Some.is)
