-- The reports of a legal window certify it.
use Rattle.std.proofs.Common.{◌≡◌, List, subst}
use Rattle.log_entries.specs.Dispatch.{IsDispatched}
use Rattle.log_entries.specs.Histories.{History}
use Rattle.log_entries.specs.Legal.{IsLegal}
use Rattle.late_cert.specs.Reports.{AreReports}
use Rattle.late_cert.specs.declared.report.Report.{Report}
use Rattle.late_cert.proofs.Legal.{legal_reports_sound, legal_reports_least}
use Rattle.log_reading.specs.Windows.{Window, window_in}
use Rattle.late_cert.specs.Certificates.{IsCertified}

pub certified : (history : History) (window : Window) (reports : List Report) → window ≡ window_in history → IsLegal history → IsDispatched history
    → AreReports window reports → IsCertified history reports
certified history window reports same legal dispatched are =
    let chosen : AreReports (window_in history) reports = subst (λ (w : Window). AreReports w reports) same are in
    record {
      legal = legal;
      dispatched = dispatched;
      chosen = chosen;
      sound = legal_reports_sound history reports legal chosen;
      least = legal_reports_least history reports legal chosen;
    }
