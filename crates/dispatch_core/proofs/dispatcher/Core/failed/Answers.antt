use Rattle.std.proofs.Common.{refl, ap, sym, ◌∙◌, subst}
use Rattle.std.specs.Option.{option_and_then}
use Rattle.log_entries.specs.Rows.{server_in}
use Rattle.log_entries.specs.Dispatch.{IsDispatched}
use Rattle.log_entries.specs.declared.entry.Entry.TheVariants.{Fail}
use Rattle.log_entries.specs.Histories.{History, effective}
use Rattle.log_entries.specs.Legal.{AddsEvent}
use Rattle.log_entries.proofs.Dispatched.{dispatched}
use Rattle.dispatch_core.proofs.Calls.{added_dispatched}
use Rattle.dispatch_core.proofs.Going.{carried_adds}
use Rattle.dispatch_core.proofs.Retrying.{failure_stage, failure_slot, failure_pin, failure_room}
use Rattle.dispatch_core.proofs.Standing.{at_fail, of_ticket}
use Rattle.dispatch_core.proofs.Checking.{core_kept}
use Rattle.dispatch_core.proofs.dispatcher.Core.failed.Given as given
use Rattle.dispatch_core.proofs.dispatcher.Core.failed.Goals.{After-settle}
use Rattle.dispatch_core.proofs.dispatcher.Core.failed.Goals as goal

-- a failure with all that becomes of it, as one event
added : (g : given.Over) (c : After-settle g)
    → AddsEvent c.self.inside.events.state c.settle.new.self.state (Fail (effective c.self.inside.events.state c.args.moment) c.in-Ok.it.ticket)
added g c = carried_adds c.self.inside.events.state _ _ _ _ refl c.fail-failures.ensures.fails c.carry_on.ensures c.settle.ensures

pub returns-in-Err-clause-dispatched : goal.returns-in-Err-clause-dispatched
returns-in-Err-clause-dispatched g c = subst IsDispatched c.self.view_is (dispatched _ c.self.invariant.legal)

pub carry_on-requires-clause-at : goal.carry_on-requires-clause-at
carry_on-requires-clause-at g c =
    at_fail c.self.inside.events.state c.fail-failures.new.self _ c.in-Ok.it.ticket c.in-Ok.it c.fail-failures.ensures.fails c.in-Ok.ensures.found.at

pub carry_on-requires-clause-failing : goal.carry_on-requires-clause-failing
carry_on-requires-clause-failing g c =
    let h = c.self.inside.events.state in
    failure_stage h c.fail-failures.new.self _ _ _ c.self.invariant.legal c.in-Ok.ensures.found c.in-Ok.ensures.accepted c.fail-failures.ensures.fails

pub carry_on-requires-clause-slot : goal.carry_on-requires-clause-slot
carry_on-requires-clause-slot g c =
    let h = c.self.inside.events.state in
    let server = ap (option_and_then server_in) c.phase.ensures ∙ sym c.server.ensures ∙ c.in-Some.is in
    failure_slot h c.fail-failures.new.self _ _ _ c.self.invariant.legal c.in-Ok.ensures.found c.in-Ok.ensures.accepted c.fail-failures.ensures.fails
    c.in-Some.server server

pub carry_on-requires-clause-pin : goal.carry_on-requires-clause-pin
carry_on-requires-clause-pin g c =
    let h = c.self.inside.events.state in
    failure_pin h c.fail-failures.new.self _ _ _ c.self.invariant.legal c.in-Ok.ensures.found c.in-Ok.ensures.accepted c.fail-failures.ensures.fails
    c.fail-failures.result c.fail-failures.ensures.count

pub carry_on-requires-clause-room : goal.carry_on-requires-clause-room
carry_on-requires-clause-room g c =
    let h = c.self.inside.events.state in
    failure_room h c.fail-failures.new.self _ _ _ c.self.invariant.legal c.in-Ok.ensures.found c.in-Ok.ensures.accepted c.fail-failures.ensures.fails

pub returns-clause-ok : goal.returns-clause-ok
returns-clause-ok g c =
    let begun = of_ticket _ _ (λ n. Fail (effective c.self.inside.events.state c.args.moment) n) _ _ c.in-Ok.ensures.found c.fail-failures.ensures.fails in
    subst (λ (h : History). AddsEvent h c.settle.new.self.state (Fail (effective h c.args.moment) c.args.ticket)) c.self.view_is
    (carried_adds c.self.inside.events.state _ _ _ _ refl begun c.carry_on.ensures c.settle.ensures)

pub returns-clause-dispatched : goal.returns-clause-dispatched
returns-clause-dispatched g c =
    added_dispatched _ _ _ c.self.invariant.legal
    (added g (goal.at.returns-clause-dispatched g c).After-settle)

pub invariant_of-self : goal.invariant_of-self
invariant_of-self g c =
    core_kept _ _ _ _ _ _ c.self.invariant (added g (goal.at.invariant_of-self g c).After-settle) refl c.self.invariant.none refl
