use Rattle.std.proofs.Common.{refl, subst}
use Rattle.log_entries.specs.Dispatch.{IsDispatched}
use Rattle.log_entries.specs.declared.entry.Entry.TheVariants.{Abort}
use Rattle.log_entries.specs.Histories.{History, effective}
use Rattle.log_entries.specs.Legal.{AddsEvent}
use Rattle.log_entries.proofs.Dispatched.{dispatched}
use Rattle.dispatch_core.proofs.Calls.{added_dispatched}
use Rattle.dispatch_core.proofs.Dismissals.{aborted_waits, may_abort, abort_may_grant, abort_settles, abort_adds}
use Rattle.dispatch_core.proofs.Standing.{at_abort}
use Rattle.dispatch_core.proofs.Checking.{core_kept}
use Rattle.dispatch_core.proofs.dispatcher.Core.abort.Goals as goal

pub returns-in-Err-clause-dispatched : goal.returns-in-Err-clause-dispatched
returns-in-Err-clause-dispatched g c = subst IsDispatched c.self.view_is (dispatched _ c.self.invariant.legal)

pub dismiss-requires-clause-at : goal.dismiss-requires-clause-at
dismiss-requires-clause-at g c = at_abort c.self.inside.events.state c.abort.new.self _ c.in-Ok.it.ticket c.in-Ok.it c.abort.ensures c.in-Ok.ensures.found.at

pub dismiss-requires-clause-lawful : goal.dismiss-requires-clause-lawful
dismiss-requires-clause-lawful g c =
    may_abort c.self.inside.events.state c.abort.new.self _ _ _ c.in-Ok.ensures.found c.in-Ok.ensures.accepted c.abort.ensures

pub dismiss-requires-clause-waits : goal.dismiss-requires-clause-waits
dismiss-requires-clause-waits g c =
    aborted_waits c.self.inside.events.state c.abort.new.self _ _ _ c.in-Ok.ensures.found c.in-Ok.ensures.accepted c.abort.ensures

pub settle-requires-clause-may_grant : goal.settle-requires-clause-may_grant
settle-requires-clause-may_grant g c =
    abort_may_grant c.self.inside.events.state c.abort.new.self _ _ _ c.in-Ok.ensures.found c.in-Ok.ensures.accepted c.abort.ensures
    c.dismiss.new.self c.dismiss.ensures.left

pub settle-requires-clause-room : goal.settle-requires-clause-room
settle-requires-clause-room g c =
    abort_settles c.self.inside.events.state c.abort.new.self _ _ _ c.in-Ok.ensures.found c.in-Ok.ensures.accepted c.abort.ensures
    c.dismiss.new.self c.dismiss.ensures.left c.self.invariant.legal

pub invariant_of-self : goal.invariant_of-self
invariant_of-self g c =
    let h = c.self.inside.events.state in
    let added = abort_adds h _ _ _ _ c.in-Ok.ensures.found c.in-Ok.ensures.accepted c.abort.ensures _ c.dismiss.ensures.left _ c.settle.ensures in
    core_kept _ _ _ _ _ _ c.self.invariant added refl c.self.invariant.none refl

pub returns-clause-ok : goal.returns-clause-ok
returns-clause-ok g c =
    let h = c.self.inside.events.state in
    let added = abort_adds h _ _ _ _ c.in-Ok.ensures.found c.in-Ok.ensures.accepted c.abort.ensures _ c.dismiss.ensures.left _ c.settle.ensures in
    subst (λ (h : History). AddsEvent h c.settle.new.self.state (Abort (effective h c.args.moment) c.args.ticket)) c.self.view_is added

pub returns-clause-dispatched : goal.returns-clause-dispatched
returns-clause-dispatched g c =
    let h = c.self.inside.events.state in
    added_dispatched _ _ _ c.self.invariant.legal
    (abort_adds h _ _ _ _ c.in-Ok.ensures.found c.in-Ok.ensures.accepted c.abort.ensures _ c.dismiss.ensures.left _ c.settle.ensures)
