use Rattle.std.proofs.Common.{◌∙◌, List, Option, option_map, ap}
use Rattle.std.specs.List.{find}
use Rattle.proxy_config.specs.declared.parts.Pin.{Pin}
use Rattle.prio_rules.specs.Truth.{guard_holds}
use Rattle.base_lists.proofs.Found.{find-first, find-none}
use Rattle.prio_rules.proofs.laws.the_first_pin_stands.Goals as goal

pub returns-clause-first : goal.returns-clause-first
returns-clause-first c config request before after pin split here none =
    ap (λ (pins : List Pin). option_map (λ p. p.server) (find (λ p. guard_holds config.acls request p.guard) pins)) split
    ∙ ap (λ (found : Option Pin). option_map (λ p. p.server) found) (find-first (λ p. guard_holds config.acls request p.guard) before after pin here none)

pub returns-clause-none : goal.returns-clause-none
returns-clause-none c config request none =
    ap (λ (found : Option Pin). option_map (λ p. p.server) found) (find-none (λ p. guard_holds config.acls request p.guard) config.pins none)
