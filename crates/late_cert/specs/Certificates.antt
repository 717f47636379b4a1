-- What a window of a dispatcher and its reports show together.
use Rattle.std.specs.Prelude.{List}
use Rattle.std.specs.List.{AllByRecursion}
use Rattle.log_entries.specs.Dispatch.{IsDispatched}
use Rattle.log_entries.specs.Histories.{History}
use Rattle.log_entries.specs.Legal.{IsLegal}
use Rattle.late_cert.specs.Reports.{AreReports, IsSoundReport, IsLeast}
use Rattle.late_cert.specs.declared.report.Report.{Report}
use Rattle.log_reading.specs.Windows.{window_in}

-- the log is legal, so no server serves more than its limit, each request is in exactly one place,
-- and no server has a free slot while a request that may take it waits; the reports are the chosen
-- ones of each queue and class with a grant, in order; and each report is sound: its worst is the
-- smallest greatest lateness that any assignment of the same slots has
pub record IsCertified (history : History) (reports : List Report) : Type 0 where
  pub legal : IsLegal history
  pub dispatched : IsDispatched history
  pub chosen : AreReports (window_in history) reports
  pub sound : AllByRecursion (IsSoundReport (window_in history)) reports
  pub least : AllByRecursion (IsLeast (window_in history)) reports
