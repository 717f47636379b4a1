use Rattle.std.proofs.Common.{◌∙◌}
use Rattle.prio_rules.proofs.Folding.{ends-end}
use Rattle.prio_rules.proofs.samples.ends.Goals as goal

pub returns : goal.returns
returns c = c.is.ensures ∙ ends-end c.args.ignore_case c.args.value.now c.args.text.now c.split_at.result.1.now c.split_at.ensures.back
