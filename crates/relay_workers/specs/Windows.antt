-- Windows that ended.
use Rattle.log_entries.specs.Histories.{History}
use Rattle.late_cert.specs.Certificates.{IsCertified}
use Rattle.dispatch_reports.specs.Lines.{AreLines}
use Rattle.dispatch_reports.specs.declared.reporting.EndedWindow.{EndedWindow}

-- the reports certify a window of a log, and the lines are its own
pub record WindowHasEnded (window : EndedWindow) : Type 0 where
  pub history : History
  pub certified : IsCertified history window.reports
  pub lines : AreLines history window.servers.items
