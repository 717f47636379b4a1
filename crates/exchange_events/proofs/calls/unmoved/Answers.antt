use Rattle.exchange_events.proofs.StepLemmas.{at_same, at_signed, none_of_client, none_of_server, none_to_client, none_to_server}
use Rattle.exchange_events.proofs.calls.unmoved.Goals as goal

pub returns-clause-signs : goal.returns-clause-signs
returns-clause-signs c h sign is = at_signed c.args.exchange h sign is

pub returns-clause-client_bytes : goal.returns-clause-client_bytes
returns-clause-client_bytes c h bytes is = at_same c.args.exchange (none_of_client h bytes) is

pub returns-clause-server_bytes : goal.returns-clause-server_bytes
returns-clause-server_bytes c h bytes is = at_same c.args.exchange (none_of_server h bytes) is

pub returns-clause-client_took : goal.returns-clause-client_took
returns-clause-client_took c h count is = at_same c.args.exchange (none_to_client h count) is

pub returns-clause-server_took : goal.returns-clause-server_took
returns-clause-server_took c h count is = at_same c.args.exchange (none_to_server h count) is
