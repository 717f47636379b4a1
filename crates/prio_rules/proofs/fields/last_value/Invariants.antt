use Rattle.std.proofs.Common.{◌≡◌}
use Rattle.std.specs.Option.{option_copied}
use Rattle.std.specs.List.{flat_map, last_or}
use Rattle.proxy_words.specs.Parts.{parts}
use Rattle.prio_rules.specs.Wishes as rules
use Rattle.prio_rules.proofs.fields.last_value.Given as goal

abbrev pub invariant-values : goal.invariant-values
invariant-values l = last_or (option_copied l.last) (flat_map parts l.values) ≡ rules.last_value l.name l.view
