use Rattle.exchange_laws.proofs.Meaning.{passes_are_true, passes_keep_bounds}
use Rattle.exchange_laws.proofs.passes.passes_are_true.Goals as goal

pub returns-clause-passes : goal.returns-clause-passes
returns-clause-passes c = passes_are_true

pub returns-clause-bounds : goal.returns-clause-bounds
returns-clause-bounds c = passes_keep_bounds
