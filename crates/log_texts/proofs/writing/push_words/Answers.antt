use Rattle.log_texts.proofs.Growing.{failed_at}
use Rattle.log_texts.proofs.writing.push_words.Goals as goal

pub returns-in_err-push_word-clause-err : goal.returns-in_err-push_word-clause-err
returns-in_err-push_word-clause-err c = failed_at _ _ _ c.args.words.now c.loop-word.word-index _ c.loop-word-test.true c.loop-word.invariant c.in_err-push_word.ensures.err
