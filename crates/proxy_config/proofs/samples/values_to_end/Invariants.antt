use Rattle.std.proofs.Common.{◌≡◌, length}
use Rattle.proxy_config.specs.Samples.{onto, values_to_end}
use Rattle.proxy_config.proofs.samples.values_to_end.Given as goal

abbrev pub invariant-values : goal.invariant-values
invariant-values l = onto l.values (values_to_end l.words) ≡ onto l.fn.start (values_to_end l.fn.words)

abbrev pub decreases-values : goal.decreases-values
decreases-values l = length l.words
