-- One field after the other.
use Rattle.std.proofs.Common.{◌≡◌, ◌∙◌, ◌+◌, ◌<◌, [], ◌++◌, length, get_or, take, drop, sym, ap, arith, append_assoc}
use Rattle.std.specs.Prelude.{filter}
use Rattle.std.proofs.lemmas.Option.{slice_get-get_or}
use Rattle.http_bodies.proofs.Exits.{at_exit}
use Rattle.http_texts.specs.Fields.{is_kept, dropped}
use Rattle.http_texts.specs.Lines.{kept_line}
use Rattle.http_texts.specs.Texts.{field_text, fields_text}
use Rattle.base_lists.proofs.Filtered.{flat_more, flat_front}
use Rattle.http_texts.proofs.Putting.{puts_trans, puts_halts, halts_front, puts_as, halts_as}
use Rattle.req_view.specs.Request.{NamedValue}
use Rattle.http_texts.proofs.lines.put_fields.Goals as goal

-- no name and no value
none : NamedValue
none = ([], [])

pub returns-in_err-put_kept-clause-err : goal.returns-in_err-put_kept-clause-err
returns-in_err-put_kept-clause-err g c =
    let fields = c.args.section.now.fields in
    let names = dropped c.args.way in
    let n = c.fields.position in
    let keep = λ (field : NamedValue). is_kept names fields field.0 in
    let below : n < length fields = omega (arith, c.fields-test.true, c.count-position-end.ensures) in
    let at = get_or fields n none in
    let line = kept_line names fields at in
    let rest = fields_text (filter keep (drop (n + 1) fields)) in
    let whole : fields_text (filter keep (take n fields)) ++ (line ++ rest) ≡ fields_text (filter keep fields) =
    sym (
    flat_front keep field_text fields (n + 1)
    ∙ ap (λ l. l ++ rest) (flat_more keep field_text fields n none below)
    ∙ append_assoc (fields_text (filter keep (take n fields))) line rest
    ) in
    at_exit _ _ _ c.from_residual.ensures.1
    (halts_as whole (puts_halts c.fields.invariant (halts_front rest (c.in_err-put_kept.ensures.err at.0 at.1 (slice_get-get_or fields n none below)))))

pub fields-preserved : goal.fields-preserved
fields-preserved g c =
    let fields = c.args.section.now.fields in
    let names = dropped c.args.way in
    let n = c.fields.position in
    let keep = λ (field : NamedValue). is_kept names fields field.0 in
    let below : n < length fields = omega (arith, c.fields-test.true, c.count-position-end.ensures) in
    let at = get_or fields n none in
    puts_as (sym (flat_more keep field_text fields n none below))
    (puts_trans c.fields.invariant (c.in_ok-put_kept.ensures.ok at.0 at.1 (slice_get-get_or fields n none below)))
