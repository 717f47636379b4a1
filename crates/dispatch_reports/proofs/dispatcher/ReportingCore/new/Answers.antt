use Rattle.dispatch_reports.proofs.Telling.{begun}
use Rattle.dispatch_reports.proofs.dispatcher.ReportingCore.new.Goals as goal

pub invariant_of-result : goal.invariant_of-result
invariant_of-result g c = begun c.args.core c.args.running c.requires.first c.requires.running
