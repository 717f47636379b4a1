use Rattle.log_texts.specs.Traces.{entry_text}
use Rattle.log_texts.proofs.Growing.{failed_by}
use Rattle.log_texts.proofs.trace.push_entries.Goals as goal

pub returns-in_err-push_entry-clause-err : goal.returns-in_err-push_entry-clause-err
returns-in_err-push_entry-clause-err c =
    failed_by _ _ (entry_text c.args.names.now) c.args.entries.now c.loop-entry.entry-index c.entry-item.result c.entry-item.is c.loop-entry-test.true c.loop-entry.invariant c.in_err-push_entry.ensures.err
