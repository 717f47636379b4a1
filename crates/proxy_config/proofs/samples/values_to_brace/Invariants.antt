use Rattle.std.proofs.Common.{◌≡◌, length}
use Rattle.proxy_config.specs.Samples.{onto_values, values_to_brace}
use Rattle.proxy_config.proofs.samples.values_to_brace.Given as goal

abbrev pub invariant-values : goal.invariant-values
invariant-values l = onto_values l.values (values_to_brace l.words) ≡ onto_values l.fn.start (values_to_brace l.fn.words)

abbrev pub decreases-values : goal.decreases-values
decreases-values l = length l.words
