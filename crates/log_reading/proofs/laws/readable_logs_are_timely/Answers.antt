use Rattle.log_reading.proofs.Moments.{moments_rise}
use Rattle.log_reading.proofs.Timely.{timely}
use Rattle.log_reading.proofs.laws.readable_logs_are_timely.Goals as goal

pub returns-clause-moments : goal.returns-clause-moments
returns-clause-moments c = λ window p q readable le. moments_rise window readable p q le

pub returns-clause-grants : goal.returns-clause-grants
returns-clause-grants c = timely
