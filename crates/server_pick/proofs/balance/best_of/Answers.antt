use Rattle.std.proofs.Common.{◌+◌, length, sym, subst}
use Rattle.slot_ledger.specs.Ledgers.{scene_in}
use Rattle.server_pick.specs.Sets.{has, IsIn}
use Rattle.server_pick.proofs.Chosen.{usable_within}
use Rattle.server_pick.proofs.Filled.{loop_end}
use Rattle.server_pick.proofs.Preferred.{IsBest, best_step, best_is_pick}
use Rattle.server_pick.proofs.balance.best_of.Goals as goal

pub comparing-preserved : goal.comparing-preserved
comparing-preserved g c =
    let scene = scene_in c.args.ledger.now in
    subst (λ best. IsBest scene c.args.cursor (IsIn c.args.among.now) (c.comparing.server + 1) best) (sym c.better_of-best.ensures)
    (best_step scene c.args.cursor (IsIn c.args.among.now) c.comparing.server c.comparing.best (has c.args.among.now c.comparing.server) (
      (λ own. own),
      (λ own. own),
    ) c.requires.usable c.comparing.invariant)

pub returns : goal.returns
returns g c =
    let scene = scene_in c.args.ledger.now in
    let all = loop_end c.setup.result.now c.args.ledger.now.setup _ _ c.setup.ensures.setup c.len-server-end.ensures c.comparing-test.false
    c.comparing.auto.server-end in
    best_is_pick scene c.args.cursor (IsIn c.args.among.now) (length scene.servers) c.comparing.best
    (λ server own. usable_within scene server (c.requires.usable server own))
    (subst (λ n. IsBest scene c.args.cursor (IsIn c.args.among.now) n c.comparing.best) all c.comparing.invariant)
