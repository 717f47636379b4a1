use Rattle.std.proofs.Common.{pos, ◌+ℤ◌}
use Rattle.log_entries.specs.declared.entry.Entry.TheVariants.{Arrive}
use Rattle.log_entries.specs.Histories.{effective}
use Rattle.log_reading.proofs.Windows.{same_window}
use Rattle.dispatch_reports.proofs.Telling.{IsTelling, IsReady, tells, ready, reported, reserved}
use Rattle.dispatch_reports.specs.Reporting.{IsReporting}
use Rattle.dispatch_reports.proofs.dispatcher.ReportingCore.arrive.Given as given
use Rattle.dispatch_reports.proofs.dispatcher.ReportingCore.arrive.Goals as goal

module _ (g : given.Over) (c : goal.After-log-2 g) where
  room_made : IsReporting c.self.inside.core c.reserve.new.self
  room_made =
      reserved c.self.inside.core c.self.inside.running c.reserve.new.self c.self.invariant c.reserve.ensures.room c.reserve.ensures.worst
      c.reserve.ensures.servers

  telling : IsTelling c.self.inside.core c.arrive.new.self c.reserve.new.self
  telling =
      tells c.self.inside.core c.arrive.new.self (Arrive (effective c.self.inside.core c.args.moment)
      (record {
        ticket = c.in_ok-it.it.ticket;
        class = c.args.class;
        due = pos (effective c.self.inside.core c.args.moment) +ℤ c.args.offset;
        pin = c.args.pin;
        place = c.in_ok-it.it.place;
      })) c.reserve.new.self
      room_made.queues room_made.room c.in-Ok.ensures.ok c.in_ok-it.ensures.ok

  is_ready : IsReady c.log-2.result.now c.grants-from.result.now c.reserve.new.self
  is_ready =
      ready c.self.inside.core c.arrive.new.self c.reserve.new.self c.log.result.now c.log-2.result.now c.grants-from.result.now telling
      room_made.worst c.grants-from.ensures.grants
      (same_window c.log.result.now c.self.inside.core c.log.ensures.base c.log.ensures.entries)
      (same_window c.log-2.result.now c.arrive.new.self c.log-2.ensures.base c.log-2.ensures.entries)

pub granted_from-requires-clause-from : goal.granted_from-requires-clause-from
granted_from-requires-clause-from g c = (is_ready g c).from

pub granted_from-requires-clause-told : goal.granted_from-requires-clause-told
granted_from-requires-clause-told g c = (is_ready g c).told

pub granted_from-requires-clause-room : goal.granted_from-requires-clause-room
granted_from-requires-clause-room g c = (is_ready g c).room

pub invariant_of-self-2 : goal.invariant_of-self-2
invariant_of-self-2 g c =
    let room_made : IsReporting c.self.inside.core c.reserve.new.self =
    reserved c.self.inside.core c.self.inside.running c.reserve.new.self c.self.invariant c.reserve.ensures.room c.reserve.ensures.worst
    c.reserve.ensures.servers in
    reported c.self.inside.core c.arrive.new.self c.reserve.new.self c.granted_from.new.self c.log-2.result.now
    (tells c.self.inside.core c.arrive.new.self (Arrive (effective c.self.inside.core c.args.moment)
    (record {
      ticket = c.in_ok-it.it.ticket;
      class = c.args.class;
      due = pos (effective c.self.inside.core c.args.moment) +ℤ c.args.offset;
      pin = c.args.pin;
      place = c.in_ok-it.it.place;
    })) c.reserve.new.self room_made.queues room_made.room c.in-Ok.ensures.ok c.in_ok-it.ensures.ok)
    room_made.queues c.in_ok-it.ensures.ok.setup
    (same_window c.log-2.result.now c.arrive.new.self c.log-2.ensures.base c.log-2.ensures.entries)
    c.granted_from.ensures.worst c.granted_from.ensures.room c.granted_from.ensures.servers
