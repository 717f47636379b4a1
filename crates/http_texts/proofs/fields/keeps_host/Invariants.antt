use Rattle.std.proofs.Common.{◌≡◌, false, take, codes}
use Rattle.std.specs.Prelude.{filter}
use Rattle.std.specs.List.{list_any}
use Rattle.http_texts.specs.Fields.{is_kept, of_request}
use Rattle.req_view.specs.Request.{is_named}
use Rattle.http_texts.proofs.fields.keeps_host.Given as goal

abbrev pub invariant-fields : goal.invariant-fields
invariant-fields l =
    list_any (is_named (codes "Host")) (filter (λ field. is_kept of_request l.section.fields field.0) (take l.position l.section.fields)) ≡ false
