use Rattle.std.proofs.Common.{◌≡◌, None, drop}
use Rattle.std.specs.List.{filter_map, last_or}
use Rattle.prio_rules.specs.Wishes.{set_by}
use Rattle.prio_rules.proofs.wish.standing.Given as goal

abbrev pub invariant-loop-rule : goal.invariant-loop-rule
invariant-loop-rule l =
    last_or l.last (filter_map (set_by l.action l.config.acls l.view) (drop l.rule-index l.config.rules))
    ≡ last_or None (filter_map (set_by l.action l.config.acls l.view) l.config.rules)
