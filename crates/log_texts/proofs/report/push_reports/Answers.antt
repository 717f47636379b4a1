use Rattle.log_texts.specs.Reports.{report_text}
use Rattle.log_texts.proofs.Growing.{failed_by}
use Rattle.log_texts.proofs.report.push_reports.Goals as goal

pub returns-in_err-push_report-clause-err : goal.returns-in_err-push_report-clause-err
returns-in_err-push_report-clause-err c =
    failed_by _ _ (report_text c.args.names.now) c.args.reports.now c.loop-report.report-index c.report-item.result c.report-item.is c.loop-report-test.true c.loop-report.invariant c.in_err-push_report.ensures.err
