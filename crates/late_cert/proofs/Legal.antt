-- The reports of a legal log.
use Rattle.std.proofs.Common.{List}
use Rattle.std.specs.List.{AllByRecursion}
use Rattle.log_entries.specs.Histories.{History}
use Rattle.log_entries.specs.Legal.{IsLegal}
use Rattle.log_reading.specs.Readable.{IsReadable}
use Rattle.log_reading.specs.Windows.{window_in}
use Rattle.log_reading.proofs.Based.{base_arrived}
use Rattle.log_reading.proofs.Judged.{judged_keep_order, judged_readable}
use Rattle.late_cert.specs.Reports.{IsChosenReport, IsSoundReport, IsLeast, AreReports}
use Rattle.late_cert.specs.declared.report.Report.{Report}
use Rattle.late_cert.proofs.Chosen.{chosen_sound}
use Rattle.late_cert.proofs.Least.{sound_least}
use Rattle.base_lists.proofs.Members.{all_weaker}

legal_readable : (h : History) → IsLegal h → IsReadable (window_in h)
legal_readable h legal = judged_readable h.setup h.base h.log legal.begins legal.lawful.judged

legal_sound : (h : History) → IsLegal h → (r : Report) → IsChosenReport (window_in h) r → IsSoundReport (window_in h) r
legal_sound h legal r chosen =
    chosen_sound h.setup h.base (window_in h) r (base_arrived h.setup h.base legal.begins)
    (judged_keep_order h.setup h.base h.log legal.begins legal.lawful.judged) chosen

pub legal_reports_sound : (h : History) (rs : List Report) → IsLegal h → AreReports (window_in h) rs → AllByRecursion (IsSoundReport (window_in h)) rs
legal_reports_sound h rs legal reports = all_weaker (IsChosenReport (window_in h)) (IsSoundReport (window_in h)) (legal_sound h legal) rs reports.chosen

pub legal_reports_least : (h : History) (rs : List Report) → IsLegal h → AreReports (window_in h) rs → AllByRecursion (IsLeast (window_in h)) rs
legal_reports_least h rs legal reports =
    all_weaker (IsChosenReport (window_in h)) (IsLeast (window_in h))
    (λ r chosen. sound_least (window_in h) r (legal_readable h legal) (legal_sound h legal r chosen)) rs reports.chosen
