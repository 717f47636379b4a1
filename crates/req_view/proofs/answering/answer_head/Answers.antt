-- What the parser says of the first bytes, carried over to all of them.
use Rattle.std.proofs.Common.{◌≡◌, ◌≤◌, length, take, arith}
use Rattle.std.proofs.lemmas.List.{length-take}
use Rattle.httparse.specs.Grammar.{HasNoResponse}
use Rattle.httparse.specs.Spans.{IsResponseOf, IsResponseWithin}
use Rattle.req_view.proofs.AnswerFronts.{found-says, late-never, overflow-never}
use Rattle.req_view.proofs.Names.{field-names}
use Rattle.req_view.proofs.Parts.{of_complete, of_partial}
use Rattle.req_view.proofs.answering.answer_head.Goals as goal

pub returns-in-Ok : goal.returns-in-Ok
returns-in-Ok c =
    found-says _ c.min.result c.parse_response.new.headers _ _ _ (omega arith) (omega arith)
    c.in-Ok-Complete.field-0-is c.in-Ok-Complete.ensures.within c.in-Ok-Complete.ensures.complete c.in-Ok.ensures

pub returns-else-bytes-lt-HEAD_BYTES : goal.returns-else-bytes-lt-HEAD_BYTES
returns-else-bytes-lt-HEAD_BYTES c =
    let none = of_partial _ (HasNoResponse (take c.min.result c.args.bytes.now)) c.in-Ok-Partial.field-0-is c.in-Ok-Partial.ensures.partial in
    let late : 16384 ≤ length c.args.bytes.now = c.if-bytes-lt-HEAD_BYTES.false in
    let most : c.min.result ≡ 16384 = omega arith in
    let here : c.min.result ≤ length c.args.bytes.now = omega arith in
    late-never c.args.bytes.now c.min.result most here none

pub returns-in-Err : goal.returns-in-Err
returns-in-Err c = overflow-never c.args.bytes.now c.min.result c.in-Err.ensures.no_room

pub copied-requires-clause-names : goal.copied-requires-clause-names
copied-requires-clause-names c =
    let spans = c.in-Ok-Complete.spans in
    let field_spans = c.parse_response.new.headers in
    let front = take c.min.result c.args.bytes.now in
    let within : IsResponseWithin front field_spans spans =
    of_complete _ _ (IsResponseWithin front field_spans) c.in-Ok-Complete.field-0-is c.in-Ok-Complete.ensures.within in
    let found : IsResponseOf front field_spans spans = of_complete _ _ (IsResponseOf front field_spans) c.in-Ok-Complete.field-0-is c.in-Ok-Complete.ensures.complete in
    let short : spans.len ≤ 16384 = omega (arith, within.section.len_fits, length-take c.min.result c.args.bytes.now) in
    field-names front spans.len (take spans.headers field_spans) found.0.fields short found.1.fields found.1.reads.0.fields within.section.headers_fit
