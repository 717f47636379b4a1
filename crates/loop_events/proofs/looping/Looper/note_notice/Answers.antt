use Rattle.std.proofs.Common.{arith}
use Rattle.std.proofs.lemmas.Grind.{common_steps}
use Rattle.loop_events.proofs.looping.Looper.note_notice.Goals as goal

pub returns-clause-account : goal.returns-clause-account
returns-clause-account g c =
    (c.learn.new.account.received, c.learn.new.account.sent, c.learn.new.account.status, c.note_event.ensures.0, grind (arith, common_steps))
