use Rattle.std.proofs.Common.{sym, ◌∙◌, refl, subst}
use Rattle.log_entries.specs.Dispatch.{IsDispatched}
use Rattle.log_entries.specs.declared.entry.Entry.TheVariants.{Check}
use Rattle.log_entries.specs.Histories.{History, effective}
use Rattle.log_entries.specs.Legal.{AddsEvent}
use Rattle.log_entries.proofs.Dispatched.{dispatched}
use Rattle.dispatch_core.proofs.Calls.{added_dispatched}
use Rattle.dispatch_core.proofs.Checking.{has_health, check_stage, check_change, check_within, check_room, core_goes}
use Rattle.dispatch_core.proofs.Going.{carried_adds}
use Rattle.dispatch_core.proofs.dispatcher.Core.check.Given as given
use Rattle.dispatch_core.proofs.dispatcher.Core.check.Goals.{After-settle}
use Rattle.dispatch_core.proofs.dispatcher.Core.check.Goals as goal

-- a check with all that follows, as one event
added : (g : given.Over) (c : After-settle g)
    → AddsEvent c.self.inside.events.state c.settle.new.self.state (Check (effective c.self.inside.events.state c.args.moment) c.args.server c.args.ok)
added g c = carried_adds c.self.inside.events.state _ _ _ _ refl c.check.ensures c.follow.ensures c.settle.ensures

pub returns-in-Some-clause-dispatched : goal.returns-in-Some-clause-dispatched
returns-in-Some-clause-dispatched g c = subst IsDispatched c.self.view_is (dispatched _ c.self.invariant.legal)

pub result-change-requires : goal.result-change-requires
result-change-requires g c =
    has_health c.self.inside.events.state c.args.server _ c.self.inside.healths (sym c.refuses_check.ensures ∙ c.in_default.is) c.self.invariant.healthy

pub up-up-requires : goal.up-up-requires
up-up-requires g c =
    has_health c.self.inside.events.state c.args.server _ c.result-change.new.self (sym c.refuses_check.ensures ∙ c.in_default.is)
    (c.result-change.ensures.healths _ _ c.self.invariant.healthy)

pub follow-requires-clause-checking : goal.follow-requires-clause-checking
follow-requires-clause-checking g c =
    let accepted = sym c.refuses_check.ensures ∙ c.in_default.is in
    check_stage c.self.inside.events.state c.check.new.self _ c.args.server c.args.ok c.self.invariant.legal accepted c.check.ensures

pub follow-requires-clause-change : goal.follow-requires-clause-change
follow-requires-clause-change g c =
    let accepted = sym c.refuses_check.ensures ∙ c.in_default.is in
    check_change c.self.inside.events.state c.check.new.self _ c.args.server c.args.ok c.self.invariant.legal accepted c.check.ensures c.result-change.result
    (c.result-change.ensures.change _ _ c.self.invariant.healthy)

pub follow-requires-clause-within : goal.follow-requires-clause-within
follow-requires-clause-within g c =
    let accepted = sym c.refuses_check.ensures ∙ c.in_default.is in
    check_within c.self.inside.events.state c.check.new.self _ c.args.server c.args.ok c.self.invariant.legal accepted c.check.ensures

pub follow-requires-clause-room : goal.follow-requires-clause-room
follow-requires-clause-room g c =
    let accepted = sym c.refuses_check.ensures ∙ c.in_default.is in
    check_room c.self.inside.events.state c.check.new.self _ c.args.server c.args.ok c.self.invariant.legal accepted c.check.ensures

pub invariant_of-self : goal.invariant_of-self
invariant_of-self g c =
    core_goes _ _ _ c.self.inside.healths c.result-change.new.self _ c.self.inside.expiring c.self.invariant
    (added g (goal.at.invariant_of-self g c).After-settle)
    (c.result-change.ensures.healths _ _ c.self.invariant.healthy) c.self.invariant.none refl

pub returns-clause-ok : goal.returns-clause-ok
returns-clause-ok g c =
    subst (λ (h : History). AddsEvent h c.settle.new.self.state (Check (effective h c.args.moment) c.args.server c.args.ok)) c.self.view_is
    (added g (goal.at.returns-clause-ok g c).After-settle)

pub returns-clause-dispatched : goal.returns-clause-dispatched
returns-clause-dispatched g c =
    added_dispatched _ _ _ c.self.invariant.legal (added g (goal.at.returns-clause-dispatched g c).After-settle)
