use Rattle.std.proofs.Common.{refl}
use Rattle.exchange_laws.specs.ServerConnections.ServerConnection.{opens, goes_on, handed_on}
use Rattle.exchange_laws.proofs.laws.what_goes_on_to_a_server.Goals as goal

pub returns-clause-opens : goal.returns-clause-opens
returns-clause-opens c = opens

pub returns-clause-steps : goal.returns-clause-steps
returns-clause-steps c = goes_on

pub returns-clause-handed_on : goal.returns-clause-handed_on
returns-clause-handed_on c = handed_on

pub returns-clause-dials : goal.returns-clause-dials
returns-clause-dials c d h is = is.unsent

pub returns-clause-given_up : goal.returns-clause-given_up
returns-clause-given_up c x event used h = record { server = refl; answer = refl }
