use Rattle.exchange_driver.proofs.Statuses.{line_from_first}
use Rattle.exchange_driver.proofs.meter.Meter.new.Goals as goal

pub returns-clause-status : goal.returns-clause-status
returns-clause-status c = line_from_first
