use Rattle.dispatch_reports.proofs.Telling.{rolled_on}
use Rattle.dispatch_reports.proofs.dispatcher.ReportingCore.roll.Goals as goal

pub invariant_of-self : goal.invariant_of-self
invariant_of-self g c =
    rolled_on c.self.inside.core c.roll.new.self c.self.inside.running c.clear.new.self c.log.ensures.legal c.self.invariant c.roll.ensures.window
    c.clear.ensures.worst c.clear.ensures.room c.clear.ensures.servers
