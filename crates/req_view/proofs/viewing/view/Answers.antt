-- What the parser says of the first bytes, carried over to all of them.
use Rattle.std.proofs.Common.{◌≡◌, ◌≤◌, length, take, refl, arith}
use Rattle.httparse.specs.Grammar.{HasNoRequest}
use Rattle.req_view.proofs.Fronts.{found-stands, welcome-says, unwelcome-never, late-never, overflow-never}
use Rattle.req_view.proofs.Parts.{of_complete, of_partial}
use Rattle.req_view.proofs.Names.{field-names}
use Rattle.httparse.specs.Spans.{IsRequestOf, IsRequestWithin}
use Rattle.std.proofs.lemmas.List.{length-take}
use Rattle.req_view.proofs.viewing.view.Goals as goal

pub returns-in-Ok : goal.returns-in-Ok
returns-in-Ok c =
    let stands = found-stands _ c.min.result c.parse_request.new.headers _ _ _ (omega arith) (omega arith)
    c.in-Ok-Complete.field-0-is c.in-Ok-Complete.ensures.within c.in-Ok-Complete.ensures.complete c.in-Ok.ensures in
    welcome-says _ _ _ stands (c.if-is_welcome.ensures.0 refl)

pub returns-in-Ok-2 : goal.returns-in-Ok-2
returns-in-Ok-2 c =
    let stands = found-stands _ c.min.result c.parse_request.new.headers _ _ _ (omega arith) (omega arith)
    c.in-Ok-Complete.field-0-is c.in-Ok-Complete.ensures.within c.in-Ok-Complete.ensures.complete c.in-Ok.ensures in
    unwelcome-never _ _ _ stands (λ welcome. let yes = c.if-is_welcome.ensures.1 welcome in cc)

pub returns-else-bytes-lt-HEAD_BYTES : goal.returns-else-bytes-lt-HEAD_BYTES
returns-else-bytes-lt-HEAD_BYTES c =
    let none = of_partial _ (HasNoRequest (take c.min.result c.args.bytes.now)) c.in-Ok-Partial.field-0-is c.in-Ok-Partial.ensures.partial in
    let late : 16384 ≤ length c.args.bytes.now = c.if-bytes-lt-HEAD_BYTES.false in
    let most : c.min.result ≡ 16384 = omega arith in
    let here : c.min.result ≤ length c.args.bytes.now = omega arith in
    late-never c.args.bytes.now c.min.result most here none

pub returns-in-Err : goal.returns-in-Err
returns-in-Err c = overflow-never c.args.bytes.now c.min.result c.in-Err.ensures.no_room

pub copied-requires-clause-names : goal.copied-requires-clause-names
copied-requires-clause-names c =
    let spans = c.in-Ok-Complete.spans in
    let field_spans = c.parse_request.new.headers in
    let front = take c.min.result c.args.bytes.now in
    let within : IsRequestWithin front field_spans spans =
    of_complete _ _ (IsRequestWithin front field_spans) c.in-Ok-Complete.field-0-is c.in-Ok-Complete.ensures.within in
    let found : IsRequestOf front field_spans spans = of_complete _ _ (IsRequestOf front field_spans) c.in-Ok-Complete.field-0-is c.in-Ok-Complete.ensures.complete in
    let short : spans.len ≤ 16384 = omega (arith, within.section.len_fits, length-take c.min.result c.args.bytes.now) in
    field-names front spans.len (take spans.headers field_spans) found.0.fields short found.1.fields found.1.reads.0.fields within.section.headers_fit
