use Rattle.log_entries.proofs.Closings.{closed_take_nobody, closed_serve_no_more}
use Rattle.log_entries.proofs.laws.closed_servers_take_nobody.Goals as goal

pub returns-clause-given : goal.returns-clause-given
returns-clause-given c = closed_take_nobody

pub returns-clause-served : goal.returns-clause-served
returns-clause-served c = closed_serve_no_more
