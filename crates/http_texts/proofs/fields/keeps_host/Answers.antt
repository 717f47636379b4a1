-- Each field is looked at, and the first Host field that is handed on is found.
use Rattle.std.proofs.Common.{◌≡◌, ◌∙◌, ◌+◌, ◌<◌, true, false, [], length, get_or, sym, arith, codes}
use Rattle.std.specs.Prelude.{◌&&◌, ◌||◌}
use Rattle.std.proofs.lemmas.Option.{slice_get-get_or}
use Rattle.http_texts.specs.Fields.{is_kept, of_request}
use Rattle.base_lists.proofs.Filtered.{any_more, any_front}
use Rattle.req_view.specs.Request.{NamedValue, is_named}
use Rattle.http_texts.proofs.fields.keeps_host.Goals as goal

-- no name and no value
none : NamedValue
none = ([], [])

pub returns-then-is_kept_host : goal.returns-then-is_kept_host
returns-then-is_kept_host c =
    let fields = c.args.section.now.fields in
    let n = c.fields.position in
    let keep = λ (field : NamedValue). is_kept of_request fields field.0 in
    let sought = is_named (codes "Host") in
    let below : n < length fields = omega (arith, c.fields-test.true, c.count-position-end.ensures) in
    let at = get_or fields n none in
    let here : (is_kept of_request fields at.0 && is_named (codes "Host") at) ≡ true =
    sym (c.is_kept_host.ensures at.0 at.1 (slice_get-get_or fields n none below)) ∙ c.if-is_kept_host.true in
    sym (any_front keep sought fields (n + 1) (any_more keep sought fields n none below ∙ (λ i. c.fields.invariant i || here i)))

pub fields-preserved : goal.fields-preserved
fields-preserved c =
    let fields = c.args.section.now.fields in
    let n = c.fields.position in
    let keep = λ (field : NamedValue). is_kept of_request fields field.0 in
    let below : n < length fields = omega (arith, c.fields-test.true, c.count-position-end.ensures) in
    let at = get_or fields n none in
    let here : (is_kept of_request fields at.0 && is_named (codes "Host") at) ≡ false =
    sym (c.is_kept_host.ensures at.0 at.1 (slice_get-get_or fields n none below)) ∙ c.if-is_kept_host.false in
    any_more keep (is_named (codes "Host")) fields n none below ∙ (λ i. c.fields.invariant i || here i)
