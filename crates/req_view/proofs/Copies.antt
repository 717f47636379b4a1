-- Spans say the same of a copy of the head as of the bytes that it was read from.
use Rattle.std.proofs.Common.{◌≡◌, ℕ, ◌+◌, ◌-◌, ◌≤◌, ◌∙◌, List, [], ◌∷◌, take, drop, map, refl, sym, ap, arith}
use Rattle.std.specs.List.{All}
use Rattle.std.proofs.lemmas.List.{take-take, drop-take}
use Rattle.std.proofs.lemmas.List.Elements.{All-head, All-tail}
use Rattle.httparse.specs.declared.spans.Span.{Span}
use Rattle.httparse.specs.declared.spans.HeaderSpan.{HeaderSpan}
use Rattle.httparse.specs.Spans.{span_bytes, header_bytes, IsWithin, IsHeaderWithin}

range-take : (n i j : ℕ) (bytes : List ℕ) → i ≤ j → j ≤ n → take (j - i) (drop i (take n bytes)) ≡ take (j - i) (drop i bytes)
range-take n i j bytes ordered within =
    let whole : i + (n - i) ≡ n = omega arith in
    let part : j - i ≤ n - i = omega arith in
    ap (λ m. take (j - i) (drop i (take m bytes))) (sym whole)
    ∙ ap (take (j - i)) (drop-take i (n - i) bytes)
    ∙ take-take (j - i) (n - i) (drop i bytes) part

pub span_bytes-take : (n : ℕ) (bytes : List ℕ) (s : Span) → IsWithin n s → span_bytes (take n bytes) s ≡ span_bytes bytes s
span_bytes-take n bytes s within = range-take n s.start s.end bytes within.0 within.1

pub header_bytes-take : (n : ℕ) (bytes : List ℕ) (field_spans : List HeaderSpan) → All (IsHeaderWithin n) field_spans
    → map (header_bytes (take n bytes)) field_spans ≡ map (header_bytes bytes) field_spans
header_bytes-take n bytes [] within = refl
header_bytes-take n bytes (field_span ∷ field_spans) within =
    let here = All-head (IsHeaderWithin n) field_span field_spans within in
    let name = span_bytes-take n bytes field_span.name here.0 in
    let value = span_bytes-take n bytes field_span.value here.1 in
    let rest = header_bytes-take n bytes field_spans (All-tail (IsHeaderWithin n) field_span field_spans within) in
    λ i. (name i, value i) ∷ rest i
