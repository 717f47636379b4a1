-- What the first bytes say of heads in all of them, and of heads that may still come.
use Rattle.std.proofs.Common.{◌≡◌, ℕ, ◌<◌, ◌≤◌, ◌∙◌, List, ◌++◌, length, take, drop, sym, ap, subst, Ok, arith}
use Rattle.std.proofs.lemmas.List.{length-take, length-map}
use Rattle.httparse.specs.declared.spans.HeaderSpan.{HeaderSpan}
use Rattle.httparse.specs.declared.spans.RequestSpans.{RequestSpans}
use Rattle.httparse.specs.declared.Error.{Error}
use Rattle.httparse.specs.declared.Status.{Status}
use Rattle.httparse.specs.declared.Status.TheVariants.{Complete}
use Rattle.httparse.specs.Outcome.{IfComplete}
use Rattle.httparse.specs.Grammar.{RequestHead, print_request, IsRequestHead, HasNoRequest}
use Rattle.httparse.specs.Spans.{header_bytes, name_and_value, IsRequestAt, IsRequestOf, IsRequestWithin, RequestOverflows}
use Rattle.httparse.proofs.GrammarLemmas.{request_prefix_free}
use Rattle.req_view.specs.Heads.{Fits, NeverHasHead, BeginsWith}
use Rattle.req_view.specs.Request.{Request, request_of, version_of, IsWelcome}
use Rattle.req_view.specs.Spans.{request_at}
use Rattle.req_view.proofs.Parts.{reads-whole, late, of_complete, beyond}

-- the head that was found fits
found-fits : (bytes : List ℕ) (n : ℕ) (field_spans : List HeaderSpan) (spans : RequestSpans) (h : RequestHead) → n ≤ 16384 → length field_spans ≤ 64
    → IsRequestWithin (take n bytes) field_spans spans → IsRequestAt (take n bytes) field_spans spans h
    → Fits bytes h (drop spans.len (take n bytes) ++ drop n bytes)
found-fits bytes n field_spans spans h small few within is = record {
  reads = reads-whole IsRequestHead print_request bytes n h (drop spans.len (take n bytes)) is.reads;
  few_bytes = omega (arith, is.len, within.section.len_fits, length-take n bytes);
  few_fields = omega (
    arith,
    sym (length-map (take spans.headers field_spans) (header_bytes (take n bytes))) ∙ ap length is.fields ∙ length-map h.fields name_and_value,
    length-take spans.headers field_spans,
  );
}

-- the spans say what the head says
request_at-of : (bytes : List ℕ) (field_spans : List HeaderSpan) (spans : RequestSpans) (h : RequestHead)
    → IsRequestAt bytes field_spans spans h → request_at bytes field_spans spans ≡ request_of h
request_at-of bytes field_spans spans h is = λ i. record {
  method = is.method i;
  target = is.path i;
  version = version_of (is.version i);
  fields = is.fields i;
}

-- a head that fits stands at the front, and r and len are what it says and its length
abbrev pub Stands : List ℕ → Request → ℕ → Type 0
Stands bytes r len = (h : RequestHead) × (rest : List ℕ) × Fits bytes h rest × (r ≡ request_of h) × (len ≡ length (print_request h))

-- what the parser says of a head in the first n bytes
pub found-stands : (bytes : List ℕ) (n : ℕ) (field_spans : List HeaderSpan) (s : Status RequestSpans) (spans : RequestSpans) (r : Request)
    → n ≤ 16384 → length field_spans ≤ 64 → s ≡ Complete spans
    → IfComplete {E = Error} (Ok s) (IsRequestWithin (take n bytes) field_spans) → IfComplete {E = Error} (Ok s) (IsRequestOf (take n bytes) field_spans)
    → r ≡ request_at (take n bytes) field_spans spans → Stands bytes r spans.len
found-stands bytes n field_spans s spans r small few is within complete says =
    let found : IsRequestOf (take n bytes) field_spans spans = of_complete s spans _ is complete in (
      found.0,
      _,
      found-fits bytes n field_spans spans found.0 small few (of_complete s spans _ is within) found.1,
      says ∙ request_at-of (take n bytes) field_spans spans found.0 found.1,
      found.1.len,
    )

-- an unwelcome head stays where it is
pub unwelcome-never : (bytes : List ℕ) (r : Request) (len : ℕ) → Stands bytes r len → ¬ (IsWelcome r) → NeverHasHead bytes
unwelcome-never bytes r len stands unwelcome more k after has =
    let same = (request_prefix_free bytes more stands.0 k stands.1 after stands.2.reads has.0.reads).0 in
    unwelcome (subst IsWelcome (sym (stands.3 ∙ ap request_of same)) has.1)

-- a welcome one is the answer
pub welcome-says : (bytes : List ℕ) (r : Request) (len : ℕ) → Stands bytes r len → IsWelcome r → BeginsWith bytes r len
welcome-says bytes r len stands welcome = record {
  head = stands.0;
  rest = stands.1;
  stands = (stands.2, subst IsWelcome stands.3 welcome);
  request = stands.3;
  len = stands.4;
}

-- with as many bytes as a head may have, one that isn't there won't come
pub late-never : (bytes : List ℕ) (n : ℕ) → n ≡ 16384 → n ≤ length bytes → HasNoRequest (take n bytes) → NeverHasHead bytes
late-never bytes n most here none more h rest has =
    late IsRequestHead print_request bytes n h rest more here none has.0.reads (omega (arith, has.0.few_bytes))

-- a head with more fields than fit isn't taken
pub overflow-never : (bytes : List ℕ) (n : ℕ) → RequestOverflows 64 (take n bytes) → NeverHasHead bytes
overflow-never bytes n overflows more h rest has =
    let many : 64 < length h.fields = overflows (drop n bytes ++ more) h rest (beyond IsRequestHead print_request bytes n h rest more has.0.reads) in
    absurd (omega (arith, has.0.few_fields))
