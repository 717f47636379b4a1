-- The names of a parsed head are names for a map.
use Rattle.std.proofs.Common.{◌≡◌, ℕ, ◌-◌, ◌≤◌, List, length, drop, map, get_or, sym, subst, arith}
use Rattle.std.specs.List.{All}
use Rattle.std.proofs.lemmas.List.{length-take}
use Rattle.std.proofs.lemmas.List.Elements.{All-map}
use Rattle.base_lists.proofs.Members.{All-from_map}
use Rattle.http_header.specs.Token.{is_token_byte, IsToken}
use Rattle.httparse.specs.declared.spans.HeaderSpan.{HeaderSpan}
use Rattle.httparse.specs.Grammar.{Field, IsField, is_token_byte as is_grammar_byte, IsToken as IsGrammarToken}
use Rattle.httparse.specs.Spans.{span_bytes, header_bytes, name_and_value, IsHeaderWithin}
use Rattle.req_view.specs.Request.{NamedValue}
use Rattle.req_view.specs.Spans.{AreNames}

-- both crates have the same tokens
same_tokens : (bytes : List ℕ) → IsGrammarToken bytes → IsToken bytes
unfolding is_token_byte is_grammar_byte
same_tokens bytes token = token

name-length : (bytes : List ℕ) (field_span : HeaderSpan) (n : ℕ) → n ≤ 16384 → IsHeaderWithin n field_span → length (span_bytes bytes field_span.name) ≤ 65535
name-length bytes field_span n small within =
    omega (arith, within.0.0, within.0.1, length-take (field_span.name.end - field_span.name.start) (drop field_span.name.start bytes))

pub field-names : (bytes : List ℕ) (n : ℕ) (field_spans : List HeaderSpan) (fields : List Field) → n ≤ 16384
    → map (header_bytes bytes) field_spans ≡ map name_and_value fields → All IsField fields → All (IsHeaderWithin n) field_spans → AreNames bytes field_spans
field-names bytes n field_spans fields small same tokens within =
    let IsNamed : NamedValue → Type 0 = λ f. IsToken f.0 in
    let named : All IsNamed (map name_and_value fields) =
    All-map IsNamed name_and_value fields (λ k d below. same_tokens _ (tokens k d below).name) in
    let spans = All-from_map IsNamed (header_bytes bytes) field_spans (subst (λ (fs : List NamedValue). All IsNamed fs) (sym same) named) in
    λ k d below. (spans k d below, name-length bytes (get_or field_spans k d) n small (within k d below))
