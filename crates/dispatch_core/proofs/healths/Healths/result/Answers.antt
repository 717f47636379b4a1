use Rattle.std.proofs.Common.{ap, slice_set, Some}
use Rattle.dispatch_core.proofs.Healthy.{health_read, healths_after, change_is}
use Rattle.dispatch_core.proofs.healths.Healths.result.Goals as goal

pub returns-clause-healths : goal.returns-clause-healths
returns-clause-healths c = λ servers results are.
    healths_after servers results c.args.self.now _ c.args.server c.args.ok c.in-Some.health c.result.new.self are
    (health_read _ _ c.args.server _ _ _ c.self.view_is c.requires.1 c.index_mut.ensures.value c.in-Some.is)
    (ap (λ l. slice_set l c.args.server (Some c.result.new.self)) c.self.view_is)
    c.result.ensures.health

pub returns-clause-change : goal.returns-clause-change
returns-clause-change c = λ servers results are.
    change_is servers results c.args.self.now c.args.server c.args.ok c.in-Some.health c.result.result are
    (health_read _ _ c.args.server _ _ _ c.self.view_is c.requires.1 c.index_mut.ensures.value c.in-Some.is)
    c.result.ensures.change
