use Rattle.dispatch_core.proofs.Emptying.{moves_none, moves_more, moves_all}
use Rattle.dispatch_core.proofs.events.Events.move_all.Goals as goal

pub moving-init : goal.moving-init
moving-init g c = moves_none c.args.server c.args.self.now.state c.requires.emptying c.requires.redispatch c.requires.within c.requires.room

pub moving-preserved : goal.moving-preserved
moving-preserved g c = moves_more c.args.server _ _ _ c.moving.invariant c.moving-test.ensures.moved

pub returns : goal.returns
returns g c =
    moves_all c.args.server c.args.self.now.state c.moving.self.state _ c.moving.invariant c.moving-test.ensures.unchanged c.moving-test.ensures.emptied
