use Rattle.log_reading.proofs.Placeless.{same_grants, same_moments}
use Rattle.log_reading.proofs.laws.grants_tell_no_place.Goals as goal

pub returns-clause-grants : goal.returns-clause-grants
returns-clause-grants c = same_grants

pub returns-clause-moments : goal.returns-clause-moments
returns-clause-moments c = λ h other n same. same_moments h other same n
