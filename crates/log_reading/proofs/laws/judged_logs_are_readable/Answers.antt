use Rattle.log_reading.proofs.Judged.{judged_keep_order, judged_readable}
use Rattle.log_reading.proofs.laws.judged_logs_are_readable.Goals as goal

pub returns-clause-order : goal.returns-clause-order
returns-clause-order c = judged_keep_order

pub returns-clause-readable : goal.returns-clause-readable
returns-clause-readable c = judged_readable
