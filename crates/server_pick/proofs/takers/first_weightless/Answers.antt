use Rattle.std.proofs.Common.{◌<◌, sym, subst}
use Rattle.server_pick.proofs.Filled.{loop_end}
use Rattle.server_pick.proofs.takers.first_weightless.Goals as goal

pub returns : goal.returns
returns g c =
    let all = loop_end c.setup.result.now c.args.ledger.now.setup _ _ c.setup.ensures.setup c.len-server-end.ensures c.looking-test.false
    c.looking.auto.server-end in
    λ server own. c.looking.invariant server (subst (λ n. server < n) (sym all) (c.requires server own)) own
