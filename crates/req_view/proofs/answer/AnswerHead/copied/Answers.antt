-- The copy has the bytes that the spans cover.
use Rattle.std.proofs.Common.{◌∙◌, ap}
use Rattle.httparse.specs.Spans.{span_bytes}
use Rattle.req_view.specs.Spans.{Copied}
use Rattle.req_view.proofs.Copies.{span_bytes-take}
use Rattle.req_view.proofs.answer.AnswerHead.copied.Goals as goal

pub returns : goal.returns
returns c =
    let spans = c.args.spans in
    let bytes = c.args.bytes.now in
    let section = c.in_ok-section.ensures in
    let version = c.of_minor.ensures in
    let reason = ap (λ (s : Copied). span_bytes s.text spans.reason) section ∙ span_bytes-take spans.len bytes spans.reason c.requires.within.reason in
    λ i. record { status = spans.code; reason = reason i; version = version i; fields = (section i).fields }
