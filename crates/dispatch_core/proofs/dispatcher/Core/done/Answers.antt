use Rattle.std.proofs.Common.{◌≡◌, None, Option, ℕ, refl, ap, sym, ◌∙◌, subst}
use Rattle.std.specs.Option.{option_and_then}
use Rattle.log_entries.specs.Rows.{server_in}
use Rattle.log_entries.specs.Dispatch.{IsDispatched}
use Rattle.log_entries.specs.declared.entry.Entry.TheVariants.{Done}
use Rattle.log_entries.specs.Histories.{History, refuses_done, state_of, effective}
use Rattle.log_entries.specs.Legal.{AddsEvent}
use Rattle.log_entries.proofs.Dispatched.{dispatched}
use Rattle.dispatch_core.specs.Steps.{IsReturn}
use Rattle.dispatch_core.proofs.Calls.{begun_stage, begun_returns, done_returns, done_settles, done_adds, added_dispatched}
use Rattle.dispatch_core.proofs.Standing.{at_done}
use Rattle.dispatch_core.proofs.Checking.{core_kept}
use Rattle.dispatch_core.proofs.dispatcher.Core.done.Goals as goal

pub returns-in-Err-clause-dispatched : goal.returns-in-Err-clause-dispatched
returns-in-Err-clause-dispatched g c = subst IsDispatched c.self.view_is (dispatched _ c.self.invariant.legal)

pub leave-requires-clause-returning : goal.leave-requires-clause-returning
leave-requires-clause-returning g c = begun_stage c.self.inside.events.state c.done.new.self _ c.in-Ok.it.ticket c.done.ensures

pub leave-requires-clause-row : goal.leave-requires-clause-row
leave-requires-clause-row g c =
    let h = c.self.inside.events.state in
    let accepted = subst (λ n. refuses_done h n ≡ None) (sym c.in-Ok.ensures.found.named) c.in-Ok.ensures.accepted in
    let server = ap (option_and_then server_in) c.phase.ensures ∙ sym c.server-server.ensures in
    begun_returns h c.done.new.self _ c.in-Ok.it.ticket c.server-server.result c.done.ensures
    (subst (λ (o : Option ℕ). IsReturn (state_of h).rows c.in-Ok.it.ticket o) server (done_returns h c.in-Ok.it.ticket c.self.invariant.legal accepted))

pub leave-requires-clause-at : goal.leave-requires-clause-at
leave-requires-clause-at g c = at_done c.self.inside.events.state c.done.new.self _ c.in-Ok.it.ticket c.in-Ok.it c.done.ensures c.in-Ok.ensures.found.at

pub settle-requires-clause-room : goal.settle-requires-clause-room
settle-requires-clause-room g c =
    done_settles c.self.inside.events.state c.done.new.self c.leave.new.self.state _ _ _ c.in-Ok.ensures.found c.self.invariant.legal c.in-Ok.ensures.accepted
    c.done.ensures
    c.leave.ensures

pub returns-clause-ok : goal.returns-clause-ok
returns-clause-ok g c =
    subst (λ (h : History). AddsEvent h c.settle.new.self.state (Done (effective h c.args.moment) c.args.ticket)) c.self.view_is
    (done_adds c.self.inside.events.state _ _ _ _ _ c.in-Ok.ensures.found _ c.done.ensures c.leave.ensures c.settle.ensures)

pub returns-clause-dispatched : goal.returns-clause-dispatched
returns-clause-dispatched g c =
    added_dispatched _ _ _ c.self.invariant.legal
    (done_adds c.self.inside.events.state _ _ _ _ _ c.in-Ok.ensures.found _ c.done.ensures c.leave.ensures c.settle.ensures)

pub invariant_of-self : goal.invariant_of-self
invariant_of-self g c =
    let added = done_adds c.self.inside.events.state _ _ _ _ _ c.in-Ok.ensures.found _ c.done.ensures c.leave.ensures c.settle.ensures in
    core_kept _ _ _ _ _ _ c.self.invariant added refl c.self.invariant.none refl
