use Rattle.log_entries.proofs.Within.{within}
use Rattle.log_entries.proofs.laws.legal_logs_keep_within.Goals as goal

pub returns : goal.returns
returns c = within
