use Rattle.std.proofs.Common.{rules, filter, ap, ◌∙◌}
use Rattle.std.proofs.lemmas.Fn.{filter_same}
use Rattle.slot_ledger.specs.Tickets.{has_place}
use Rattle.slot_ledger.proofs.tickets.compact.Goals as goal

-- the closure tells whether an pair has a place
pub returns-clause-items : goal.returns-clause-items
returns-clause-items c = filter_same _ has_place _ (λ x b f h. search rules) _ _ c.retain.ensures.filtered ∙ ap (filter has_place) c.cut.ensures.items
