use Rattle.log_texts.proofs.Growing.{failed_first, failed_last}
use Rattle.log_texts.proofs.report.push_claim.Goals as goal

pub returns-in_err-push_group-clause-err : goal.returns-in_err-push_group-clause-err
returns-in_err-push_group-clause-err c = failed_first _ _ _ _ c.in_err-push_group.ensures.err

pub returns-clause-err : goal.returns-clause-err
returns-clause-err c = failed_last _ _ _ _ _ c.in_ok-push_group.ensures.ok c.push_worst.ensures.err
