use Rattle.dispatch_core.proofs.Settling.{since_none, since_more, settles}
use Rattle.dispatch_core.proofs.events.Events.settle.Goals as goal

pub granting-preserved : goal.granting-preserved
granting-preserved g c = since_more _ _ _ c.granting.invariant c.granting-test.ensures.granted

pub granting-init : goal.granting-init
granting-init g c = since_none c.args.self.now.state c.requires.may_grant c.requires.room

pub returns : goal.returns
returns g c =
    settles c.args.self.now.state c.granting.self.state _ c.granting.invariant c.granting-test.ensures.unchanged c.granting-test.ensures.judged
    c.granting-test.ensures.settled
