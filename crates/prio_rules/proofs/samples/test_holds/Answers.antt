use Rattle.std.proofs.Common.{◌∙◌, ℕ, List, sym, ap}
use Rattle.std.specs.List.{list_any}
use Rattle.proxy_config.specs.declared.parts.Subject.{Subject}
use Rattle.proxy_words.specs.Parts.{parts}
use Rattle.req_view.specs.Request.{values_of}
use Rattle.prio_rules.specs.FieldValues.{field_values}
use Rattle.prio_rules.specs.Truth.{one_fits, texts}
use Rattle.base_lists.proofs.Found.{list_any_flat_map}
use Rattle.prio_rules.proofs.samples.test_holds.Goals as goal

pub returns-in-Header : goal.returns-in-Header
returns-in-Header c =
    let test = c.args.test.now in
    let view = c.args.view.now in
    c.one_value_fits.ensures
    ∙ list_any_flat_map (one_fits test) parts (values_of c.as_slice.result.now view.fields)
    ∙ ap (λ (name : List ℕ). list_any (one_fits test) (field_values name view)) c.as_slice.ensures
    ∙ ap (λ (subject : Subject). list_any (one_fits test) (texts subject view)) (sym c.in-Header.is)
