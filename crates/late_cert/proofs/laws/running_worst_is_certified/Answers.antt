use Rattle.late_cert.specs.Running.{worst_so_far}
use Rattle.late_cert.proofs.Worst.{certified, none_certified}
use Rattle.late_cert.proofs.laws.running_worst_is_certified.Goals as goal

pub returns-clause-worst : goal.returns-clause-worst
returns-clause-worst c window running report is sound in_range =
    certified window report (worst_so_far running report.queue report.class) (is report.queue report.class in_range) sound

pub returns-clause-none : goal.returns-clause-none
returns-clause-none c window running queue class is in_range =
    none_certified window queue class (worst_so_far running queue class) (is queue class in_range)
