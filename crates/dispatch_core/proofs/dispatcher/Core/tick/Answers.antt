use Rattle.std.proofs.Common.{refl, subst}
use Rattle.log_entries.specs.Dispatch.{IsDispatched}
use Rattle.log_entries.specs.declared.entry.Entry.TheVariants.{Tick}
use Rattle.log_entries.specs.Histories.{History, effective}
use Rattle.log_entries.specs.Legal.{AddsEvent}
use Rattle.log_entries.proofs.Dispatched.{dispatched}
use Rattle.dispatch_core.proofs.Calls.{added_dispatched}
use Rattle.dispatch_core.proofs.Checking.{core_kept}
use Rattle.dispatch_core.proofs.Going.{carried_adds}
use Rattle.dispatch_core.proofs.Timing.{tick_tells, tick_room, quiet_adds}
use Rattle.dispatch_core.proofs.dispatcher.Core.tick.Given as given
use Rattle.dispatch_core.proofs.dispatcher.Core.tick.Goals.{After-settle, Then-not-expired}
use Rattle.dispatch_core.proofs.dispatcher.Core.tick.Goals as goal

-- a tick with those that it tells and the grants that follow, as one event
told : (g : given.Over) (c : After-settle g)
    → AddsEvent c.self.inside.events.state c.settle.new.self.state (Tick (effective c.self.inside.events.state c.args.moment))
told g c = carried_adds c.self.inside.events.state _ _ _ _ refl c.tick.ensures.goes c.time_out.ensures.told c.settle.ensures

-- a tick that tells nobody
quiet : (g : given.Over) (c : Then-not-expired g)
    → AddsEvent c.self.inside.events.state c.tick.new.self (Tick (effective c.self.inside.events.state c.args.moment))
quiet g c =
    quiet_adds c.self.inside.events.state c.tick.new.self _ c.tick.ensures.goes c.args.moment refl c.self.invariant.legal c.tick.ensures.judged _
    c.if-not-expired.true c.expired.ensures.1

pub returns-then-not-has_room-clause-dispatched : goal.returns-then-not-has_room-clause-dispatched
returns-then-not-has_room-clause-dispatched g c = subst IsDispatched c.self.view_is (dispatched _ c.self.invariant.legal)

pub time_out-requires-clause-telling : goal.time_out-requires-clause-telling
time_out-requires-clause-telling g c = tick_tells c.self.inside.events.state c.tick.new.self _ c.tick.ensures.goes

pub time_out-requires-clause-room : goal.time_out-requires-clause-room
time_out-requires-clause-room g c = tick_room c.self.inside.events.state c.tick.new.self _ c.tick.ensures.goes c.self.invariant.legal
    (c.has_room.ensures.0 c.if-not-has_room.false)

pub invariant_of-self-2 : goal.invariant_of-self-2
invariant_of-self-2 g c =
    core_kept _ _ _ _ _ _ c.self.invariant
    (told g (goal.at.invariant_of-self-2 g c).After-settle)
    refl c.time_out.ensures.none c.time_out.ensures.kept

pub returns-clause-ok : goal.returns-clause-ok
returns-clause-ok g c =
    subst (λ (h : History). AddsEvent h c.settle.new.self.state (Tick (effective h c.args.moment))) c.self.view_is
    (told g (goal.at.returns-clause-ok g c).After-settle)

pub returns-clause-dispatched : goal.returns-clause-dispatched
returns-clause-dispatched g c =
    added_dispatched _ _ _ c.self.invariant.legal
    (told g (goal.at.returns-clause-dispatched g c).After-settle)

pub invariant_of-self : goal.invariant_of-self
invariant_of-self g c =
    core_kept c.self.inside.events.state c.tick.new.self _ _ _ _ c.self.invariant
    (quiet g (goal.at.invariant_of-self g c).Then-not-expired)
    refl c.self.invariant.none refl

pub returns-then-not-expired-clause-ok : goal.returns-then-not-expired-clause-ok
returns-then-not-expired-clause-ok g c =
    subst (λ (h : History). AddsEvent h c.tick.new.self (Tick (effective h c.args.moment))) c.self.view_is
    (quiet g (goal.at.returns-then-not-expired-clause-ok g c).Then-not-expired)

pub returns-then-not-expired-clause-dispatched : goal.returns-then-not-expired-clause-dispatched
returns-then-not-expired-clause-dispatched g c =
    added_dispatched c.self.inside.events.state c.tick.new.self _ c.self.invariant.legal
    (quiet g (goal.at.returns-then-not-expired-clause-dispatched g c).Then-not-expired)
