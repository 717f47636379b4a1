use Rattle.log_texts.proofs.Growing.{failed_first, failed_last}
use Rattle.log_texts.proofs.report.push_critical.Goals as goal

pub returns-in_err-push_word-clause-err : goal.returns-in_err-push_word-clause-err
returns-in_err-push_word-clause-err c = failed_first _ _ _ _ c.in_err-push_word.ensures.err

pub returns-in_err-push_tickets-clause-err : goal.returns-in_err-push_tickets-clause-err
returns-in_err-push_tickets-clause-err c = failed_last _ _ _ _ _ c.in_ok-push_word.ensures.ok (failed_first _ _ _ _ c.in_err-push_tickets.ensures.err)

pub returns-clause-err : goal.returns-clause-err
returns-clause-err c = failed_last _ _ _ _ _ c.in_ok-push_word.ensures.ok (failed_last _ _ _ _ _ c.in_ok-push_tickets.ensures.ok c.push_word-2.ensures.err)
