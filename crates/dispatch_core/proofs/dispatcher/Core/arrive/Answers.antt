use Rattle.std.proofs.Common.{refl, sym, ◌∙◌, subst, pos, ◌+ℤ◌}
use Rattle.log_entries.specs.declared.entry.Entry.TheVariants.{Arrive}
use Rattle.log_entries.specs.Dispatch.{IsDispatched}
use Rattle.log_entries.specs.Histories.{History, effective}
use Rattle.log_entries.specs.Legal.{AddsEvent}
use Rattle.log_entries.proofs.Dispatched.{dispatched}
use Rattle.dispatch_core.proofs.Calls.{added_dispatched, legal_places}
use Rattle.dispatch_state.proofs.Placing.{newcomer_put, arrival_places, arrival_room}
use Rattle.dispatch_core.proofs.Checking.{core_kept}
use Rattle.dispatch_core.proofs.Going.{goes_places, adds}
use Rattle.dispatch_state.proofs.Placing.{over_granting, may_granting}
use Rattle.dispatch_core.proofs.dispatcher.Core.arrive.Goals as goal

pub returns-in-Some-clause-dispatched : goal.returns-in-Some-clause-dispatched
returns-in-Some-clause-dispatched g c = subst IsDispatched c.self.view_is (dispatched _ c.self.invariant.legal)

pub returns-in_default-arrive-clause-dispatched : goal.returns-in_default-arrive-clause-dispatched
returns-in_default-arrive-clause-dispatched g c = subst IsDispatched (sym c.in_default-arrive.ensures.err) (dispatched _ c.self.invariant.legal)

pub place-requires-clause-may_put : goal.place-requires-clause-may_put
place-requires-clause-may_put g c =
    newcomer_put c.arrive.new.self _ c.args.pin (arrival_places c.self.inside.events.state c.arrive.new.self _ _ c.in-Ok.ensures.ok) c.in-Ok.ensures.pin

pub settle-requires-clause-may_grant : goal.settle-requires-clause-may_grant
settle-requires-clause-may_grant g c = may_granting c.place.new.self.state c.place.ensures.over

pub settle-requires-clause-room : goal.settle-requires-clause-room
settle-requires-clause-room g c =
    arrival_room c.self.inside.events.state c.arrive.new.self c.place.new.self.state _ _ c.args.pin _ (legal_places _ c.self.invariant.legal)
    (sym c.refuses_arrival.ensures ∙ c.in_default.is)
    c.in-Ok.ensures.ok c.place.ensures.placed

pub returns-clause-ok : goal.returns-clause-ok
returns-clause-ok g c =
    subst
    (λ (h : History). AddsEvent h c.settle.new.self.state
    (Arrive (effective h c.args.moment) record {
      ticket = c.in-Ok.it.ticket;
      class = c.args.class;
      due = pos (effective h c.args.moment) +ℤ c.args.offset;
      pin = c.args.pin;
      place = c.in-Ok.it.place;
    }))
    c.self.view_is
    (adds c.self.inside.events.state c.arrive.new.self c.place.new.self.state c.settle.new.self.state _ refl c.in-Ok.ensures.ok
    (goes_places c.arrive.new.self c.place.new.self.state c.place.ensures) (over_granting c.place.new.self.state c.place.ensures.over) c.settle.ensures)

pub returns-clause-dispatched : goal.returns-clause-dispatched
returns-clause-dispatched g c =
    let over = over_granting c.place.new.self.state c.place.ensures.over in
    added_dispatched c.self.inside.events.state c.settle.new.self.state _ c.self.invariant.legal
    (adds c.self.inside.events.state c.arrive.new.self c.place.new.self.state c.settle.new.self.state _ refl c.in-Ok.ensures.ok
    (goes_places c.arrive.new.self c.place.new.self.state c.place.ensures) over c.settle.ensures)

pub invariant_of-self-2 : goal.invariant_of-self-2
invariant_of-self-2 g c =
    let over = over_granting c.place.new.self.state c.place.ensures.over in
    let added = adds c.self.inside.events.state c.arrive.new.self c.place.new.self.state c.settle.new.self.state _ refl c.in-Ok.ensures.ok
    (goes_places c.arrive.new.self c.place.new.self.state c.place.ensures) over c.settle.ensures in
    core_kept c.self.inside.events.state c.settle.new.self.state _ _ _ _ c.self.invariant added refl c.self.invariant.none refl
