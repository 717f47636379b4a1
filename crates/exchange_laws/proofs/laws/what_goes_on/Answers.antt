use Rattle.exchange_laws.specs.Connections.Connection.{begins, goes_on, asks_again}
use Rattle.exchange_laws.proofs.laws.what_goes_on.Goals as goal

pub returns-clause-begins : goal.returns-clause-begins
returns-clause-begins c = begins

pub returns-clause-steps : goal.returns-clause-steps
returns-clause-steps c = goes_on

pub returns-clause-asks_again : goal.returns-clause-asks_again
returns-clause-asks_again c = asks_again
