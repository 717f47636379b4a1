-- What the first bytes say of an answer's head in all of them, and of one that may still come.
use Rattle.std.proofs.Common.{◌≡◌, ℕ, ◌<◌, ◌≤◌, ◌∙◌, List, ◌++◌, length, take, drop, sym, ap, arith}
use Rattle.std.proofs.lemmas.List.{length-take, length-map}
use Rattle.httparse.specs.declared.spans.HeaderSpan.{HeaderSpan}
use Rattle.httparse.specs.declared.spans.ResponseSpans.{ResponseSpans}
use Rattle.httparse.specs.declared.Error.{Error}
use Rattle.httparse.specs.declared.Status.{Status}
use Rattle.httparse.specs.declared.Status.TheVariants.{Complete}
use Rattle.httparse.specs.Outcome.{IfComplete}
use Rattle.httparse.specs.Grammar.{ResponseHead, print_response, IsResponseHead, HasNoResponse}
use Rattle.httparse.specs.Spans.{header_bytes, name_and_value, IsResponseAt, IsResponseOf, IsResponseWithin, ResponseOverflows}
use Rattle.std.specs.Prelude.{Ok}
use Rattle.req_view.specs.Answer.{Answer, answer_of}
use Rattle.req_view.specs.AnswerHeads.{HasAnswer, NeverHasAnswer, SaysAnswer}
use Rattle.req_view.specs.Request.{version_of}
use Rattle.req_view.specs.Spans.{answer_at}
use Rattle.req_view.proofs.Parts.{reads-whole, late, of_complete, beyond}

found-fits : (bytes : List ℕ) (n : ℕ) (field_spans : List HeaderSpan) (spans : ResponseSpans) (h : ResponseHead) → n ≤ 16384 → length field_spans ≤ 64
    → IsResponseWithin (take n bytes) field_spans spans → IsResponseAt (take n bytes) field_spans spans h
    → HasAnswer bytes h (drop spans.len (take n bytes) ++ drop n bytes)
found-fits bytes n field_spans spans h small few within is = record {
  reads = reads-whole IsResponseHead print_response bytes n h (drop spans.len (take n bytes)) is.reads;
  few_bytes = omega (arith, is.len, within.section.len_fits, length-take n bytes);
  few_fields = omega (
    arith,
    sym (length-map (take spans.headers field_spans) (header_bytes (take n bytes))) ∙ ap length is.fields ∙ length-map h.fields name_and_value,
    length-take spans.headers field_spans,
  );
}

-- the spans say what the head says
answer_at-of : (bytes : List ℕ) (field_spans : List HeaderSpan) (spans : ResponseSpans) (h : ResponseHead)
    → IsResponseAt bytes field_spans spans h → answer_at bytes field_spans spans ≡ answer_of h
answer_at-of bytes field_spans spans h is = λ i. record {
  status = is.code i;
  reason = is.reason i;
  version = version_of (is.version i);
  fields = is.fields i;
}

-- what the parser says of a head in the first n bytes
pub found-says : (bytes : List ℕ) (n : ℕ) (field_spans : List HeaderSpan) (s : Status ResponseSpans) (spans : ResponseSpans) (a : Answer)
    → n ≤ 16384 → length field_spans ≤ 64 → s ≡ Complete spans
    → IfComplete {E = Error} (Ok s) (IsResponseWithin (take n bytes) field_spans) → IfComplete {E = Error} (Ok s) (IsResponseOf (take n bytes) field_spans)
    → a ≡ answer_at (take n bytes) field_spans spans → SaysAnswer bytes a spans.len
found-says bytes n field_spans s spans a small few is within complete says =
    let found : IsResponseOf (take n bytes) field_spans spans = of_complete s spans _ is complete in record {
      head = found.0;
      rest = drop spans.len (take n bytes) ++ drop n bytes;
      stands = found-fits bytes n field_spans spans found.0 small few (of_complete s spans _ is within) found.1;
      answer = says ∙ answer_at-of (take n bytes) field_spans spans found.0 found.1;
      len = found.1.len;
    }

-- with as many bytes as a head may have, one that isn't there won't come
pub late-never : (bytes : List ℕ) (n : ℕ) → n ≡ 16384 → n ≤ length bytes → HasNoResponse (take n bytes) → NeverHasAnswer bytes
late-never bytes n most here none more h rest has =
    late IsResponseHead print_response bytes n h rest more here none has.reads (omega (arith, has.few_bytes))

-- a head with more fields than fit isn't taken
pub overflow-never : (bytes : List ℕ) (n : ℕ) → ResponseOverflows 64 (take n bytes) → NeverHasAnswer bytes
overflow-never bytes n overflows more h rest has =
    let many : 64 < length h.fields = overflows (drop n bytes ++ more) h rest (beyond IsResponseHead print_response bytes n h rest more has.reads) in
    absurd (omega (arith, has.few_fields))
