use Rattle.late_cert.proofs.OneReport.{reports_same}
use Rattle.late_cert.proofs.laws.reports_are_determined.Goals as goal

pub returns : goal.returns
returns c = reports_same
