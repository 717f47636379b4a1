use Rattle.dispatch_core.proofs.Healthy.{health_read, up_is}
use Rattle.dispatch_core.proofs.healths.Healths.up.Goals as goal

pub returns : goal.returns
returns c = λ servers results are.
    up_is servers results c.args.self.now c.args.server c.in-Some.health c.up.result are
    (health_read _ _ c.args.server _ _ _ c.self.view_is c.requires.1 c.index.ensures c.in-Some.is)
    c.up.ensures
