use Rattle.dispatch_core.specs.Occurrences.{entry_of}
use Rattle.log_reading.proofs.Windows.{same_window}
use Rattle.dispatch_reports.proofs.Telling.{IsTelling, IsReady, brings_no_class, tells, ready, reported}
use Rattle.dispatch_reports.proofs.dispatcher.ReportingCore.apply.Given as given
use Rattle.dispatch_reports.proofs.dispatcher.ReportingCore.apply.Goals as goal

module _ (g : given.Over) (c : goal.After-log-2 g) where
  telling : IsTelling c.self.inside.core c.apply.new.self c.self.inside.running
  telling =
      tells c.self.inside.core c.apply.new.self (entry_of c.self.inside.core c.args.event) c.self.inside.running
      c.self.invariant.queues c.self.invariant.room (brings_no_class c.self.inside.core c.self.inside.running c.args.event) c.in_ok-apply.ensures.ok

  is_ready : IsReady c.log-2.result.now c.grants-from.result.now c.self.inside.running
  is_ready =
      ready c.self.inside.core c.apply.new.self c.self.inside.running c.log.result.now c.log-2.result.now c.grants-from.result.now telling
      c.self.invariant.worst c.grants-from.ensures.grants
      (same_window c.log.result.now c.self.inside.core c.log.ensures.base c.log.ensures.entries)
      (same_window c.log-2.result.now c.apply.new.self c.log-2.ensures.base c.log-2.ensures.entries)

pub granted_from-requires-clause-from : goal.granted_from-requires-clause-from
granted_from-requires-clause-from g c = (is_ready g c).from

pub granted_from-requires-clause-told : goal.granted_from-requires-clause-told
granted_from-requires-clause-told g c = (is_ready g c).told

pub granted_from-requires-clause-room : goal.granted_from-requires-clause-room
granted_from-requires-clause-room g c = (is_ready g c).room

pub invariant_of-self-2 : goal.invariant_of-self-2
invariant_of-self-2 g c =
    reported c.self.inside.core c.apply.new.self c.self.inside.running c.granted_from.new.self c.log-2.result.now
    (tells c.self.inside.core c.apply.new.self (entry_of c.self.inside.core c.args.event) c.self.inside.running
    c.self.invariant.queues c.self.invariant.room (brings_no_class c.self.inside.core c.self.inside.running c.args.event) c.in_ok-apply.ensures.ok)
    c.self.invariant.queues c.in_ok-apply.ensures.ok.setup
    (same_window c.log-2.result.now c.apply.new.self c.log-2.ensures.base c.log-2.ensures.entries)
    c.granted_from.ensures.worst c.granted_from.ensures.room c.granted_from.ensures.servers
