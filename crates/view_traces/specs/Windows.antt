-- What a trace tells of the reports on a log's first window.
use Rattle.std.specs.Prelude.{ℕ, ℤ, List, map}
use Rattle.log_entries.specs.declared.queue.Queue.{Queue}
use Rattle.late_cert.specs.declared.report.Report.{Report}
use Rattle.log_reading.specs.declared.grant.Stay.{Stay}
use Rattle.view_traces.specs.declared.report.ReportLine.{ReportLine}

-- the contents of a report's line; of its critical stays the tickets, in order
pub record Told : Type 0 where
  pub before : ℕ
  pub queue : Queue
  pub class : ℤ
  pub granted : ℕ
  pub worst : ℤ
  pub due : ℤ
  pub after : ℕ
  pub to : ℕ
  pub critical : List ℕ

abbrev pub ticket_of : Stay → ℕ
ticket_of stay = stay.ticket

-- the contents for a report on the first window, before which no entry stands
abbrev pub told_of : Report → Told
told_of report =
    record {
      before = 0;
      queue = report.queue;
      class = report.class;
      granted = report.granted;
      worst = report.worst;
      due = report.due;
      after = report.after;
      to = report.to;
      critical = map ticket_of report.critical;
    }

abbrev pub told_by : ReportLine → Told
told_by line =
    record {
      before = line.before;
      queue = line.queue;
      class = line.class;
      granted = line.granted;
      worst = line.worst;
      due = line.due;
      after = line.after;
      to = line.to;
      critical = line.critical.items;
    }
