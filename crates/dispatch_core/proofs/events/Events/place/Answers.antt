use Rattle.server_pick.specs.declared.placement.Placement.TheVariants.{Slot, OwnQueue, BackendQueue, Nowhere}
use Rattle.dispatch_core.proofs.Calls.{places}
use Rattle.dispatch_state.proofs.Placing.{may_place}
use Rattle.dispatch_core.proofs.events.Events.place.Goals as goal

pub direct-requires-clause-lawful : goal.direct-requires-clause-lawful
direct-requires-clause-lawful g c =
    may_place c.args.self.now.state c.args.pin c.args.avoid c.args.it.ticket _
    (Slot c.in-Slot.server) c.requires.may_put c.placement-placement.ensures.placed c.in-Slot.is

pub join-requires-clause-lawful : goal.join-requires-clause-lawful
join-requires-clause-lawful g c =
    may_place c.args.self.now.state c.args.pin c.args.avoid c.args.it.ticket _
    (OwnQueue c.in-OwnQueue.server) c.requires.may_put c.placement-placement.ensures.placed c.in-OwnQueue.is

pub join-requires-in-BackendQueue-clause-lawful : goal.join-requires-in-BackendQueue-clause-lawful
join-requires-in-BackendQueue-clause-lawful g c =
    may_place c.args.self.now.state c.args.pin c.args.avoid c.args.it.ticket _ BackendQueue c.requires.may_put c.placement-placement.ensures.placed
    c.in-BackendQueue.is

pub tell-requires-clause-lawful : goal.tell-requires-clause-lawful
tell-requires-clause-lawful g c =
    may_place c.args.self.now.state c.args.pin c.args.avoid c.args.it.ticket _ Nowhere c.requires.may_put c.placement-placement.ensures.placed c.in-Nowhere.is

pub returns-in-Slot : goal.returns-in-Slot
returns-in-Slot g c =
    places c.args.self.now.state _ c.args.pin c.args.avoid c.args.it.ticket _
    (Slot c.in-Slot.server) c.requires.may_put c.placement-placement.ensures.placed c.in-Slot.is c.direct.ensures

pub returns-in-OwnQueue : goal.returns-in-OwnQueue
returns-in-OwnQueue g c =
    places c.args.self.now.state _ c.args.pin c.args.avoid c.args.it.ticket _
    (OwnQueue c.in-OwnQueue.server) c.requires.may_put c.placement-placement.ensures.placed c.in-OwnQueue.is c.join.ensures

pub returns-in-BackendQueue : goal.returns-in-BackendQueue
returns-in-BackendQueue g c =
    places c.args.self.now.state _ c.args.pin c.args.avoid c.args.it.ticket _ BackendQueue c.requires.may_put c.placement-placement.ensures.placed
    c.in-BackendQueue.is c.join-in-BackendQueue.ensures

pub returns-in-Nowhere : goal.returns-in-Nowhere
returns-in-Nowhere g c =
    places c.args.self.now.state _ c.args.pin c.args.avoid c.args.it.ticket _ Nowhere c.requires.may_put c.placement-placement.ensures.placed c.in-Nowhere.is
    c.tell.ensures
