use Rattle.std.proofs.Common.{◌∙◌, ℤ, pos, List, Option, None, unwrap_or, ap}
use Rattle.std.specs.List.{filter_map, last_or}
use Rattle.proxy_config.specs.declared.parts.Rule.{Rule}
use Rattle.prio_rules.specs.Wishes.{set_by}
use Rattle.base_lists.proofs.Found.{last_or-last, last_or-none}
use Rattle.prio_rules.proofs.laws.the_last_done_action_stands.Goals as goal

pub returns-clause-last : goal.returns-clause-last
returns-clause-last c action config request before after rule number split done none =
    ap (λ (rules : List Rule). unwrap_or (last_or None (filter_map (set_by action config.acls request) rules)) (pos 0)) split
    ∙ ap (λ (last : Option ℤ). unwrap_or last (pos 0)) (last_or-last (set_by action config.acls request) before after rule number done none)

pub returns-clause-none : goal.returns-clause-none
returns-clause-none c action config request none =
    ap (λ (last : Option ℤ). unwrap_or last (pos 0)) (last_or-none (set_by action config.acls request) None config.rules none)
