-- The copy has the bytes that the spans cover.
use Rattle.std.proofs.Common.{◌∙◌, ap}
use Rattle.httparse.specs.Spans.{span_bytes}
use Rattle.req_view.specs.Spans.{Copied}
use Rattle.req_view.proofs.Copies.{span_bytes-take}
use Rattle.req_view.proofs.request.View.copied.Goals as goal

pub returns : goal.returns
returns c =
    let spans = c.args.spans in
    let bytes = c.args.bytes.now in
    let section = c.in_ok-section.ensures in
    let version = c.of_minor.ensures in
    let method = ap (λ (s : Copied). span_bytes s.text spans.method) section ∙ span_bytes-take spans.len bytes spans.method c.requires.within.method in
    let target = ap (λ (s : Copied). span_bytes s.text spans.path) section ∙ span_bytes-take spans.len bytes spans.path c.requires.within.path in
    λ i. record { method = method i; target = target i; version = version i; fields = (section i).fields }
