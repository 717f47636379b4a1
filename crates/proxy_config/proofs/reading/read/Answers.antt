use Rattle.proxy_config.proofs.FirstFaults.{answers-ok, answers-fault}
use Rattle.proxy_config.proofs.Soundness.{answers-sound}
use Rattle.proxy_config.proofs.reading.read.Goals as goal

pub returns-clause-says : goal.returns-clause-says
returns-clause-says c = answers-ok c.read_lines.result c.args.bytes.now c.read_lines.ensures

pub returns-clause-blames : goal.returns-clause-blames
returns-clause-blames c = answers-fault c.read_lines.result c.args.bytes.now c.read_lines.ensures

pub returns-clause-sound : goal.returns-clause-sound
returns-clause-sound c = answers-sound c.read_lines.result c.args.bytes.now c.read_lines.ensures
