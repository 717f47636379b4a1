use Rattle.log_reading.proofs.Back.{known-push}
use Rattle.log_reading.proofs.Joinings.{joining_of-push}
use Rattle.log_reading.proofs.laws.entries_add_up.Goals as goal

pub returns-clause-key : goal.returns-clause-key
returns-clause-key c = known-push

pub returns-clause-joining : goal.returns-clause-joining
returns-clause-joining c = joining_of-push
