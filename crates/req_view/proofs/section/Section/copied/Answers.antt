-- The copy has the fields that the field_spans cover.
use Rattle.std.proofs.Common.{◌≡◌, ◌∙◌, take, map}
use Rattle.httparse.specs.Spans.{header_bytes}
use Rattle.req_view.proofs.Copies.{header_bytes-take}
use Rattle.req_view.proofs.section.Section.copied.Goals as goal

pub returns : goal.returns
returns c =
    let bytes = c.args.bytes.now in
    let text : c.in_ok-text.text.items ≡ take c.args.len bytes = c.in_ok-text.ensures.items in
    let field_spans : c.in_ok-field_spans.field_spans.items ≡ take c.args.count c.args.field_spans.now = c.in_ok-field_spans.ensures.items in
    let fields =
    (λ i. map (header_bytes (text i)) (field_spans i))
    ∙ header_bytes-take c.args.len bytes (take c.args.count c.args.field_spans.now) c.requires.within.headers_fit in
    λ i. record { text = text i; fields = fields i }
