-- The first part is the number that all others have to be.
use Rattle.std.proofs.Common.{◌∙◌, ℕ, List, true, false, sym, ap, inl, inr}
use Rattle.std.specs.List.{flat_map}
use Rattle.proxy_words.specs.Parts.{parts}
use Rattle.http_texts.specs.Summaries.{stated_of}
use Rattle.http_texts.proofs.Lengths.{parts_some, first_faulty, not_all, by_rest}
use Rattle.http_texts.proofs.framings.stated_of.Goals as goal

pub returns-in-None-first_number : goal.returns-in-None-first_number
returns-in-None-first_number c =
    let whole = ap (λ (values : List (List ℕ)). stated_of (flat_map parts values)) (sym c.in-Some.ensures.steps) in
    elim c.in-None-first_number.ensures.none [
      | inl none ↦ absurd (parts_some c.in-Some.first.now none)
      | inr part ↦ first_faulty c.in-Some.first.now c.next.new.self part.0 part.1 part.2 part.3 ∙ whole
    ]

pub returns-then-not-all_are : goal.returns-then-not-all_are
returns-then-not-all_are c =
    let whole = ap (λ (values : List (List ℕ)). stated_of (flat_map parts values)) (sym c.in-Some.ensures.steps) in
    let part = c.in-Some-first_number.ensures.some in
    not_all c.in-Some.first.now c.next.new.self part.0 part.1 c.in-Some-first_number.count part.2 part.3 (sym c.if-not-all_are.ensures) ∙ whole

pub returns-then-rest_are : goal.returns-then-rest_are
returns-then-rest_are c =
    let whole = ap (λ (values : List (List ℕ)). stated_of (flat_map parts values)) (sym c.in-Some.ensures.steps) in
    let part = c.in-Some-first_number.ensures.some in
    by_rest c.in-Some.first.now c.next.new.self part.0 part.1 c.in-Some-first_number.count true part.2 part.3 (sym c.if-not-all_are.ensures)
    (sym c.if-rest_are.ensures) ∙ whole

pub returns-else-rest_are : goal.returns-else-rest_are
returns-else-rest_are c =
    let whole = ap (λ (values : List (List ℕ)). stated_of (flat_map parts values)) (sym c.in-Some.ensures.steps) in
    let part = c.in-Some-first_number.ensures.some in
    by_rest c.in-Some.first.now c.next.new.self part.0 part.1 c.in-Some-first_number.count false part.2 part.3 (sym c.if-not-all_are.ensures)
    (sym c.if-rest_are.ensures) ∙ whole
