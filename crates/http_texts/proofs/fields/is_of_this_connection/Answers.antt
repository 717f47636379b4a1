use Rattle.std.proofs.Common.{◌∙◌, ℕ, List, codes, ap}
use Rattle.std.specs.List.{list_any}
use Rattle.std.specs.Str.{str_eq_ignore_ascii_case}
use Rattle.base_lists.proofs.Found.{list_any_flat_map}
use Rattle.proxy_words.specs.Parts.{parts}
use Rattle.http_texts.specs.Fields.{is_among}
use Rattle.req_view.specs.Request.{values_of}
use Rattle.http_texts.proofs.fields.is_of_this_connection.Goals as goal

pub returns : goal.returns
returns c =
    let name = c.args.name.now in
    c.have_part.ensures
    ∙ ap (λ (values : List (List ℕ)). list_any (λ value. is_among (parts value) name) values) c.values.ensures
    ∙ list_any_flat_map (λ other. str_eq_ignore_ascii_case name other) parts (values_of (codes "Connection") c.args.section.now.fields)
