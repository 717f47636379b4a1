use Rattle.std.proofs.Common.{◌<◌, length, IfSome, Option, ℕ, sym, subst}
use Rattle.prio_rules.specs.Truth.{guard_holds}
use Rattle.base_lists.proofs.Found.{find-All}
use Rattle.prio_rules.proofs.wish.decide.Goals as goal

pub returns-clause-known : goal.returns-clause-known
returns-clause-known c sound =
    let config = c.args.config.now in
    subst (λ (pin : Option ℕ). IfSome pin (λ server. server < length config.servers)) (sym c.pinned.ensures)
    (find-All (λ pin. guard_holds config.acls c.args.view.now pin.guard) (λ pin. pin.server) (λ server. server < length config.servers) config.pins sound.pins)
