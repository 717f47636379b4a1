use Rattle.log_texts.specs.Reports.{ticket_text}
use Rattle.log_texts.proofs.Growing.{failed_by}
use Rattle.log_texts.proofs.report.push_tickets.Goals as goal

pub returns-in_err-push_number-clause-err : goal.returns-in_err-push_number-clause-err
returns-in_err-push_number-clause-err c =
    failed_by _ _ ticket_text c.args.stays.now c.loop-stay.stay-index c.stay-item.result c.stay-item.is c.loop-stay-test.true c.loop-stay.invariant c.in_err-push_number.ensures.err
