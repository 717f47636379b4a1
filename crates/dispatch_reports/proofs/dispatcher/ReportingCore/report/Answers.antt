use Rattle.std.proofs.Common.{subst}
use Rattle.std.proofs.lemmas.Result.{IfOk-weaker}
use Rattle.log_entries.specs.Histories.{History}
use Rattle.log_reading.specs.Windows.{window_of}
use Rattle.late_cert.specs.Certificates.{IsCertified}
use Rattle.late_cert.specs.Reports.{AreReports}
use Rattle.log_reading.proofs.Windows.{same_window}
use Rattle.late_cert.proofs.Certified.{certified}
use Rattle.dispatch_reports.proofs.dispatcher.ReportingCore.report.Goals as goal

pub returns : goal.returns
returns g c =
    IfOk-weaker c.certify.result (AreReports (window_of c.log.result.now)) (IsCertified c.args.self.now)
    (λ reports are. subst (λ (h : History). IsCertified h reports) c.self.view_is (certified c.self.inside.core (window_of c.log.result.now) reports
    (same_window c.log.result.now c.self.inside.core c.log.ensures.base c.log.ensures.entries) c.log.ensures.legal c.log.ensures.dispatched are))
    c.certify.ensures
