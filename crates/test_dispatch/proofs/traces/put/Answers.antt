use Rattle.std.proofs.Common.{None}
use Rattle.log_entries.specs.declared.entry.Entry.TheVariants.{Direct, Joined}
use Rattle.log_entries.specs.declared.queue.Queue.TheVariants.{Backend}
use Rattle.server_pick.specs.declared.placement.Placement.TheVariants.{Slot, BackendQueue}
use Rattle.dispatch_state.proofs.Placing.{may_place, placed_stage}
use Rattle.test_dispatch.proofs.traces.put.Goals as goal

pub direct-requires-clause-lawful : goal.direct-requires-clause-lawful
direct-requires-clause-lawful g c =
    may_place c.args.trace.now None None c.args.it.ticket _ (Slot c.in-Slot.server) c.requires.may_put c.placement-placement.ensures.placed c.in-Slot.is

pub join-requires-clause-lawful : goal.join-requires-clause-lawful
join-requires-clause-lawful g c =
    may_place c.args.trace.now None None c.args.it.ticket _ BackendQueue c.requires.may_put c.placement-placement.ensures.placed c.in-BackendQueue.is

pub returns-in-Slot : goal.returns-in-Slot
returns-in-Slot g c = (
  Direct c.args.it.ticket c.in-Slot.server,
  c.direct.ensures,
  placed_stage c.args.trace.now None None c.args.it.ticket _ (Slot c.in-Slot.server) c.requires.may_put c.placement-placement.ensures.placed c.in-Slot.is
      c.direct.new.self c.direct.ensures,
)

pub returns-in-BackendQueue : goal.returns-in-BackendQueue
returns-in-BackendQueue g c = (
  Joined c.args.it.ticket Backend,
  c.join.ensures,
  placed_stage c.args.trace.now None None c.args.it.ticket _ BackendQueue c.requires.may_put c.placement-placement.ensures.placed c.in-BackendQueue.is
      c.join.new.self c.join.ensures,
)
