use Rattle.log_entries.proofs.Runs.{after_on, stage_on}
use Rattle.log_entries.proofs.Within.{judged_parts, moment_stays}
use Rattle.log_entries.proofs.laws.entries_go_on_from_entries.Goals as goal

pub returns-clause-state : goal.returns-clause-state
returns-clause-state c = after_on

pub returns-clause-stage : goal.returns-clause-stage
returns-clause-stage c = stage_on

pub returns-clause-judged : goal.returns-clause-judged
returns-clause-judged c = judged_parts

pub returns-clause-moment : goal.returns-clause-moment
returns-clause-moment c = moment_stays
