use Rattle.std.proofs.Common.{◌∙◌, ℕ, List, Option, sym, ap}
use Rattle.std.specs.List.{flat_map, last_or}
use Rattle.std.specs.Option.{option_copied}
use Rattle.proxy_words.specs.Parts.{parts}
use Rattle.base_lists.proofs.Found.{last_or-append}
use Rattle.prio_rules.proofs.fields.last_value.Goals as goal

pub values-preserved : goal.values-preserved
values-preserved c =
    let left = flat_map parts c.next.new.self in
    let before = option_copied c.values.last in
    ap (λ (o : Option (List ℕ)). last_or o left) c.last_part-last.ensures
    ∙ sym (last_or-append before (parts c.in-Some.value.now) left)
    ∙ ap (λ (values : List (List ℕ)). last_or before (flat_map parts values)) (sym c.in-Some.ensures.steps)
    ∙ c.values.invariant
