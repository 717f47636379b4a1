use Rattle.proxy_config.proofs.FirstFaults.{run-names}
use Rattle.proxy_config.proofs.laws.a_faulty_line_names_itself.Goals as goal

pub returns : goal.returns
returns c = run-names
