-- The meaning of the spans of a parsed head.
use Rattle.std.specs.Prelude.{ℕ, List, [], map, take, All}
use Rattle.http_header.specs.HeaderMap.{Entries, append_all}
use Rattle.http_header.specs.FieldName.{IsFieldName}
use Rattle.http_header.specs.Token.{lowercase}
use Rattle.httparse.specs.declared.spans.Span.{Span}
use Rattle.httparse.specs.declared.spans.HeaderSpan.{HeaderSpan}
use Rattle.httparse.specs.declared.spans.RequestSpans.{RequestSpans}
use Rattle.httparse.specs.declared.spans.ResponseSpans.{ResponseSpans}
use Rattle.httparse.specs.Spans.{span_bytes, header_bytes}
use Rattle.req_view.specs.Answer.{Answer}
use Rattle.req_view.specs.Request.{NamedValue, Request, version_of}

-- the bytes of a head, and its fields
pub record Copied : Type 0 where
  pub text : List ℕ
  pub fields : List NamedValue

-- the request whose parts the spans cover
abbrev pub request_at : List ℕ → List HeaderSpan → RequestSpans → Request
request_at bytes field_spans spans = record {
  method = span_bytes bytes spans.method;
  target = span_bytes bytes spans.path;
  version = version_of spans.version;
  fields = map (header_bytes bytes) (take spans.headers field_spans);
}

-- the answer whose parts the spans cover
abbrev pub answer_at : List ℕ → List HeaderSpan → ResponseSpans → Answer
answer_at bytes field_spans spans = record {
  status = spans.code;
  reason = span_bytes bytes spans.reason;
  version = version_of spans.version;
  fields = map (header_bytes bytes) (take spans.headers field_spans);
}

-- the span of a field's value, with its name in lower case
abbrev pub named_span : List ℕ → HeaderSpan → List ℕ × Span
named_span text field_span = (lowercase (span_bytes text field_span.name), field_span.value)

-- the spans of the values of each name
abbrev pub index_of : List ℕ → List HeaderSpan → Entries Span
index_of text field_spans = append_all [] (map (named_span text) field_spans)

-- each span covers a field's name
abbrev pub AreNames : List ℕ → List HeaderSpan → Type 0
AreNames text field_spans = All (λ field_span. IsFieldName (span_bytes text field_span.name)) field_spans
