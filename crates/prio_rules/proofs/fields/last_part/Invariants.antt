use Rattle.std.proofs.Common.{◌≡◌}
use Rattle.std.specs.List.{last_or}
use Rattle.std.specs.Option.{option_copied}
use Rattle.proxy_words.specs.Parts.{parts}
use Rattle.prio_rules.proofs.fields.last_part.Given as goal

abbrev pub invariant-parts : goal.invariant-parts
invariant-parts l = last_or (option_copied l.last) l.parts ≡ last_or (option_copied l.before) (parts l.value)
