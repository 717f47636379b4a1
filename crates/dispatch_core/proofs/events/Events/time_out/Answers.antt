use Rattle.std.proofs.Common.{◌∙◌}
use Rattle.dispatch_core.proofs.Timing.{tells_none, may_time_out, expired_waits, timeout_room, tells_more, times_out, fewer_tickets, its_place}
use Rattle.dispatch_core.proofs.events.Events.time_out.Goals as goal

pub telling-init : goal.telling-init
telling-init g c = record {
  since = tells_none c.args.self.now.state c.gather.new.tickets.pairs c.requires.telling c.requires.room c.gather.ensures.expired c.gather.ensures.ascending;
  kept = c.gather.ensures.room;
}

pub dismiss-requires-clause-lawful : goal.dismiss-requires-clause-lawful
dismiss-requires-clause-lawful g c =
    may_time_out c.args.self.now.state c.telling.self.state c.telling.tickets.pairs c.in-Some.ticket c.in-Some.place c.telling.invariant.since
    c.in-Some.ensures.value

pub dismiss-requires-clause-waits : goal.dismiss-requires-clause-waits
dismiss-requires-clause-waits g c =
    expired_waits c.args.self.now.state c.telling.self.state c.telling.tickets.pairs c.in-Some.ticket c.in-Some.place c.telling.invariant.since
    c.in-Some.ensures.value

pub dismiss-requires-clause-room : goal.dismiss-requires-clause-room
dismiss-requires-clause-room g c =
    timeout_room c.args.self.now.state c.telling.self.state c.telling.tickets.pairs c.in-Some.ticket c.in-Some.place c.telling.invariant.since
    c.in-Some.ensures.value

pub telling-smaller : goal.telling-smaller
telling-smaller g c = fewer_tickets c.telling.tickets.pairs c.pop.new.self.pairs c.in-Some.ticket c.in-Some.place c.in-Some.ensures.value c.pop.ensures.pairs

pub telling-preserved : goal.telling-preserved
telling-preserved g c = record {
  since =
      tells_more c.args.self.now.state c.telling.self.state c.telling.tickets.pairs c.in-Some.ticket c.in-Some.place c.telling.invariant.since
      c.in-Some.ensures.value c.dismiss.new.self c.dismiss.ensures.left c.pop.new.self.pairs c.pop.ensures.pairs c.dismiss.ensures.fewer;
  kept = c.pop.ensures.room ∙ c.telling.invariant.kept;
}

pub returns-clause-told : goal.returns-clause-told
returns-clause-told g c = times_out c.args.self.now.state c.telling.self.state c.telling.tickets.pairs c.telling.invariant.since c.in_default.ensures.value

pub returns-clause-kept : goal.returns-clause-kept
returns-clause-kept g c = c.pop.ensures.room ∙ c.telling.invariant.kept

pub dismiss-requires-clause-at : goal.dismiss-requires-clause-at
dismiss-requires-clause-at g c =
    its_place c.args.self.now.state c.telling.self.state c.telling.tickets.pairs c.in-Some.ticket c.in-Some.place c.telling.invariant.since
    c.in-Some.ensures.value
