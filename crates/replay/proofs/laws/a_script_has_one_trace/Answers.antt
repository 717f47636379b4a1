use Rattle.replay.proofs.OneTrace.{one_trace}
use Rattle.replay.proofs.laws.a_script_has_one_trace.Goals as goal

pub returns : goal.returns
returns c = one_trace
