use Rattle.std.proofs.Common.{None, arith}
use Rattle.std.proofs.lemmas.Grind.{common_steps}
use Rattle.loop_events.proofs.accounting.note_unanswered.Goals as goal

pub returns-in-Some-clause-account : goal.returns-in-Some-clause-account
returns-in-Some-clause-account c =
    (c.learn.new.account.received, c.learn.new.account.sent, c.learn.new.account.status, grind (arith, common_steps))

pub returns-in_default-clause-account : goal.returns-in_default-clause-account
returns-in_default-clause-account c = (0, 0, None, search)
