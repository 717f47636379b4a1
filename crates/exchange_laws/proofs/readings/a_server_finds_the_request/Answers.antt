use Rattle.exchange_laws.proofs.Bodies.{request_found}
use Rattle.exchange_laws.proofs.readings.a_server_finds_the_request.Goals as goal

pub returns : goal.returns
returns c = request_found
