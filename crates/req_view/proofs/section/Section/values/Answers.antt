-- What the map has under a name is where the fields of that name have their values.
use Rattle.std.proofs.Common.{◌≡◌, ◌∙◌, ℕ, List, [], length, map, sym, ap, subst}
use Rattle.std.specs.List.{All}
use Rattle.http_header.specs.HeaderMap.{Entries, get_all, append_all}
use Rattle.http_header.specs.Token.{lowercase}
use Rattle.httparse.specs.declared.spans.Span.{Span}
use Rattle.httparse.specs.Spans.{span_bytes, IsWithin}
use Rattle.req_view.specs.Request.{values_of}
use Rattle.req_view.specs.Spans.{Copied, named_span}
use Rattle.req_view.proofs.Lookups.{under, get_all-append_all, spans-values, spans-within}
use Rattle.req_view.proofs.section.Section.values.Goals as goal

found : (index : Entries Span) (all : List (List ℕ × Span)) (name : List ℕ) (spans : List Span) (given : List Span)
    → given ≡ spans → spans ≡ get_all index name → index ≡ append_all [] all → given ≡ under name all
found index all name spans given a b e = a ∙ b ∙ ap (λ (m : Entries Span). get_all m name) e ∙ get_all-append_all all [] name

pub new-requires : goal.new-requires
new-requires c =
    let text = c.self.inside.text.items in
    let fields = c.self.inside.field_spans.items in
    let spans = found c.self.inside.by_name (map (named_span text) fields)
    (lowercase c.args.name.now) _ _ c.iter.ensures c.get_all.ensures.value c.self.invariant.1 in
    let within = spans-within (length text) text c.args.name.now fields c.self.invariant.0 in
    let P : List ℕ → List Span → Type 0 = λ bytes found. All (IsWithin (length bytes)) found in
    subst (λ (bytes : List ℕ). P bytes c.iter.result) (sym c.deref.ensures.value) (subst (P text) (sym spans) within)

pub returns : goal.returns
returns c =
    let text = c.self.inside.text.items in
    let fields = c.self.inside.field_spans.items in
    let spans = found c.self.inside.by_name (map (named_span text) fields)
    (lowercase c.args.name.now) _ _ c.iter.ensures c.get_all.ensures.value c.self.invariant.1 in
    c.new.ensures
    ∙ (λ k. map (span_bytes (c.deref.ensures.value k)) (spans k))
    ∙ spans-values text c.args.name.now fields
    ∙ ap (λ (s : Copied). values_of c.args.name.now s.fields) c.self.view_is
