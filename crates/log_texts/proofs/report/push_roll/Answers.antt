use Rattle.log_texts.proofs.Growing.{failed_first}
use Rattle.log_texts.proofs.report.push_roll.Goals as goal

pub returns-in_err-push_word-clause-err : goal.returns-in_err-push_word-clause-err
returns-in_err-push_word-clause-err c = failed_first _ _ _ _ c.in_err-push_word.ensures.err
