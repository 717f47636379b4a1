use Rattle.std.proofs.lemmas.Bool.{not-false, not_from_true}
use Rattle.check_state.proofs.Parts.{run_parts, run_from_parts, down_parts, down_from_parts}
use Rattle.check_state.proofs.laws.runs_decide.Goals as goal

pub returns-clause-runs : goal.returns-clause-runs
returns-clause-runs c count which results = (run_parts count which results, run_from_parts count which results)

pub returns-clause-falls : goal.returns-clause-falls
returns-clause-falls c rise fall results some_rise some_fall = (
  λ is. down_parts rise fall some_rise some_fall results (not-false _ is),
  λ parts. not_from_true _ (down_from_parts rise fall some_rise some_fall results parts),
)
