use Rattle.exchange_driver.proofs.Statuses.{line_from_first}
use Rattle.exchange_driver.proofs.meter.interim.Goals as goal

pub returns-in-3-eq10 : goal.returns-in-3-eq10
returns-in-3-eq10 c more = rw (c.in-3-eq10.is-0, c.in-3-eq10.is-1) (line_from_first more)
