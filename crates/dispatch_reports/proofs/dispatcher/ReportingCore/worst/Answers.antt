use Rattle.std.proofs.Common.{subst, sym}
use Rattle.log_entries.specs.Histories.{History}
use Rattle.log_reading.specs.Readable.{IsReadable}
use Rattle.log_reading.specs.Windows.{window_in}
use Rattle.late_cert.specs.Running.{IsWorstIn}
use Rattle.late_cert.proofs.Worst.{worst_of_window}
use Rattle.log_reading.proofs.Windows.{same_window}
use Rattle.dispatch_reports.proofs.dispatcher.ReportingCore.worst.Goals as goal

pub returns : goal.returns
returns g c =
    let h : History = c.self.inside.core in
    let readable : IsReadable (window_in h) =
    subst IsReadable (same_window c.log.result.now h c.log.ensures.base c.log.ensures.entries) c.grants.ensures.readable in
    subst (λ (x : History). IsWorstIn (window_in x) c.args.queue c.args.class c.worst.result) c.self.view_is
    (subst (IsWorstIn (window_in h) c.args.queue c.args.class) (sym c.worst.ensures.worst)
    (worst_of_window (window_in h) readable c.self.inside.running c.self.invariant.worst c.args.queue c.args.class c.worst.ensures.range))
