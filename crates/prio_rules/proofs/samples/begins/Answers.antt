use Rattle.std.proofs.Common.{◌∙◌}
use Rattle.prio_rules.proofs.Folding.{begins-front}
use Rattle.prio_rules.proofs.samples.begins.Goals as goal

pub returns : goal.returns
returns c = c.is.ensures ∙ begins-front c.args.ignore_case c.args.value.now c.args.text.now c.split_at.result.0.now c.split_at.ensures.front
