use Rattle.log_entries.proofs.Dispatched.{dispatched}
use Rattle.log_entries.proofs.laws.legal_logs_are_dispatched.Goals as goal

pub returns : goal.returns
returns c = dispatched
