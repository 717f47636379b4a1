use Rattle.std.proofs.Common.{◌≡◌, ◌++◌, take, string_bytes}
use Rattle.log_texts.specs.Reports.{reports_text}
use Rattle.log_texts.proofs.report.push_reports.Given as goal

-- the lines of the reports so far stand at the end
abbrev pub invariant-loop-report : goal.invariant-loop-report
invariant-loop-report l = string_bytes l.text ≡ string_bytes l.initial.text ++ reports_text l.names (take l.report-index l.reports)
