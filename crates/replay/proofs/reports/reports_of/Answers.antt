use Rattle.std.proofs.lemmas.Result.{IfOk-weaker}
use Rattle.log_reading.specs.Windows.{window_of}
use Rattle.late_cert.specs.Certificates.{IsCertified}
use Rattle.late_cert.specs.Reports.{AreReports}
use Rattle.log_reading.proofs.Windows.{same_window}
use Rattle.late_cert.proofs.Certified.{certified}
use Rattle.replay.proofs.reports.reports_of.Goals as goal

pub returns : goal.returns
returns g c =
    IfOk-weaker c.certify.result (AreReports (window_of c.log.result.now)) (IsCertified c.args.core.now)
    (λ reports are. certified c.args.core.now (window_of c.log.result.now) reports
    (same_window c.log.result.now c.args.core.now c.log.ensures.base c.log.ensures.entries) c.log.ensures.legal c.log.ensures.dispatched are)
    c.certify.ensures
