use Rattle.log_entries.proofs.Determined.{legal_one, legal_determined}
use Rattle.log_entries.proofs.laws.legal_logs_are_determined.Goals as goal

pub returns-clause-placed : goal.returns-clause-placed
returns-clause-placed c = legal_one

pub returns-clause-unplaced : goal.returns-clause-unplaced
returns-clause-unplaced c = legal_determined
