-- The spans that are left were there before.
use Rattle.std.proofs.Common.{◌≡◌, List, ◌∷◌, length, subst}
use Rattle.std.specs.List.{All}
use Rattle.std.proofs.lemmas.List.Elements.{All-tail}
use Rattle.httparse.specs.declared.spans.Span.{Span}
use Rattle.httparse.specs.Spans.{IsWithin}
use Rattle.req_view.proofs.values.ValuesIterator.next.Goals as goal

pub invariant_of-self-2 : goal.invariant_of-self-2
invariant_of-self-2 c =
    let text = c.self.inside.text.now in
    let first : c.self.inside.spans ≡ c.in_ok-span.span.now ∷ c.next.new.self = c.in_ok-span.ensures.steps in
    All-tail (IsWithin (length text)) c.in_ok-span.span.now c.next.new.self
    (subst (λ (spans : List Span). All (IsWithin (length text)) spans) first c.self.invariant)
