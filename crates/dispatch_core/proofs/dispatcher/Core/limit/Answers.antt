use Rattle.std.proofs.Common.{sym, ◌∙◌, refl, subst}
use Rattle.log_entries.specs.Dispatch.{IsDispatched}
use Rattle.log_entries.specs.declared.entry.Entry.TheVariants.{Limit}
use Rattle.log_entries.specs.Histories.{History, effective}
use Rattle.log_entries.specs.Legal.{AddsEvent}
use Rattle.log_entries.proofs.Dispatched.{dispatched}
use Rattle.dispatch_core.proofs.Calls.{added_dispatched}
use Rattle.dispatch_core.proofs.Checking.{core_kept}
use Rattle.dispatch_core.proofs.Going.{carried_adds}
use Rattle.dispatch_core.proofs.Limits.{limit_within, limit_fits, limit_opens, limit_there, limit_room}
use Rattle.dispatch_core.proofs.dispatcher.Core.limit.Given as given
use Rattle.dispatch_core.proofs.dispatcher.Core.limit.Goals.{After-settle}
use Rattle.dispatch_core.proofs.dispatcher.Core.limit.Goals as goal

-- a new limit with all that follows, as one event
added : (g : given.Over) (c : After-settle g)
    → AddsEvent c.self.inside.events.state c.settle.new.self.state (Limit (effective c.self.inside.events.state c.args.moment) c.args.server c.args.limit)
added g c = carried_adds c.self.inside.events.state _ _ _ _ refl c.limit.ensures c.follow_limit.ensures c.settle.ensures

pub returns-in-Some-clause-dispatched : goal.returns-in-Some-clause-dispatched
returns-in-Some-clause-dispatched g c = subst IsDispatched c.self.view_is (dispatched _ c.self.invariant.legal)

pub limit-requires-clause-within : goal.limit-requires-clause-within
limit-requires-clause-within g c = limit_within c.self.inside.events.state c.args.server (sym c.refuses_limit.ensures ∙ c.in_default.is)

pub limit-requires-clause-room : goal.limit-requires-clause-room
limit-requires-clause-room g c = limit_fits c.self.inside.events.state c.args.server (sym c.refuses_limit.ensures ∙ c.in_default.is)

pub follow_limit-requires-clause-stage : goal.follow_limit-requires-clause-stage
follow_limit-requires-clause-stage g c =
    limit_opens c.self.inside.events.state c.args.server (sym c.refuses_limit.ensures ∙ c.in_default.is) c.limit.new.self _ _ c.limit.ensures

pub follow_limit-requires-clause-within : goal.follow_limit-requires-clause-within
follow_limit-requires-clause-within g c =
    limit_there c.self.inside.events.state c.args.server (sym c.refuses_limit.ensures ∙ c.in_default.is) c.limit.new.self _ _ c.limit.ensures

pub follow_limit-requires-clause-room : goal.follow_limit-requires-clause-room
follow_limit-requires-clause-room g c =
    limit_room c.self.inside.events.state c.args.server (sym c.refuses_limit.ensures ∙ c.in_default.is) c.limit.new.self _ _ c.limit.ensures
    c.self.invariant.legal

pub invariant_of-self : goal.invariant_of-self
invariant_of-self g c = core_kept _ _ _ _ _ _ c.self.invariant (added g (goal.at.invariant_of-self g c).After-settle) refl c.self.invariant.none refl

pub returns-clause-ok : goal.returns-clause-ok
returns-clause-ok g c =
    subst (λ (h : History). AddsEvent h c.settle.new.self.state (Limit (effective h c.args.moment) c.args.server c.args.limit)) c.self.view_is
    (added g (goal.at.returns-clause-ok g c).After-settle)

pub returns-clause-dispatched : goal.returns-clause-dispatched
returns-clause-dispatched g c =
    added_dispatched _ _ _ c.self.invariant.legal (added g (goal.at.returns-clause-dispatched g c).After-settle)
