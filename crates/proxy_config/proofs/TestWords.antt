-- The words of a test, read and spelled.
use Rattle.std.proofs.Common.{◌≡◌, ◌∙◌, inl, inr, ◌<◌, ◌==◌, ℕ, Bool, true, false, List, []}
use Rattle.std.proofs.Common.{◌∷◌, ◌++◌, length, Some, Ok, refl, sym, ap, subst, arith, append_assoc, codes}
use Rattle.std.specs.List.{list_any}
use Rattle.std.specs.Option.{ok_or}
use Rattle.std.specs.Str.{bytes_eq}
use Rattle.std.proofs.lemmas.Bool.{eqb-true, and_parts, or_from, or_parts}
use Rattle.proxy_config.specs.declared.faults.FaultCause.TheVariants as causes
use Rattle.proxy_config.specs.declared.parts.Subject.{Subject}
use Rattle.proxy_config.specs.declared.parts.Test.{Test}
use Rattle.proxy_config.specs.Outcomes.{unless}
use Rattle.proxy_config.specs.Pieces.{word_at}
use Rattle.proxy_config.specs.Samples.{head_at, is_brace, is_dashed, subject_of, test_in_braces, value_of, values_to_brace}
use Rattle.proxy_config.specs.ConditionGrammar.{IsTest, flag}
use Rattle.proxy_config.proofs.Outcomes.{bind_ok, chosen, from_ok, ok_or_ok, unless_ok}

-- texts that test equal are equal
pub same_text : (one other : List ℕ) → bytes_eq one other ≡ true → one ≡ other
same_text [] [] is = refl
same_text [] (b ∷ other) is = cc
same_text (a ∷ one) [] is = cc
same_text (a ∷ one) (b ∷ other) is =
    let parts = and_parts (a == b) (bytes_eq one other) is in
    let head : a ≡ b = eqb-true a b parts.0 in
    let tail : one ≡ other = same_text one other parts.1 in
    cc

-- a test that doesn't hold of a text is false of one that tests equal to it
pub not_text : (p : List ℕ → Bool) (one other : List ℕ) → p one ≡ false → p other ≡ true → bytes_eq one other ≡ false
not_text p one other fails holds = tells (bytes_eq one other) refl
  where
    tells : (b : Bool) → bytes_eq one other ≡ b → b ≡ false
    tells true is = let same : one ≡ other = same_text one other is in absurd (let both : true ≡ false = sym holds ∙ ap p (sym same) ∙ fails in cc)
    tells false is = refl

-- a value that doesn't begin with `-` is read as it is
value_of-plain : (word : List ℕ) → is_dashed word ≡ false → value_of word ≡ Ok word
value_of-plain word plain = rw plain refl

value_of-ok : (word value : List ℕ) → value_of word ≡ Ok value → (is_dashed word ≡ false) × (word ≡ value)
value_of-ok word value is = elim (chosen (is_dashed word) _ _ _ is) [
  | inl (dashed, fault) ↦ absurd (let no = fault in cc)
  | inr (plain, same) ↦ (plain, from_ok word value same)
]

-- values up to the brace are read as they stand
pub values_to_brace-again : (values rest : List (List ℕ)) → list_any is_dashed values ≡ false → list_any is_brace values ≡ false
    → values_to_brace (values ++ codes "}" ∷ rest) ≡ Ok (values, rest)
values_to_brace-again [] rest plain open_ = refl
values_to_brace-again (value ∷ values) rest plain open_ =
    let p = or_parts (is_dashed value) (list_any is_dashed values) plain in
    let o = or_parts (is_brace value) (list_any is_brace values) open_ in
    rw (o.0, p.0, values_to_brace-again values rest p.1 o.1) refl

-- and what was read stood there
pub values_to_brace-found : (words values rest : List (List ℕ)) → values_to_brace words ≡ Ok (values, rest)
    → (words ≡ values ++ codes "}" ∷ rest) × (list_any is_dashed values ≡ false) × (list_any is_brace values ≡ false)
values_to_brace-found [] values rest is = absurd (let no = is in cc)
values_to_brace-found (word ∷ words) values rest is = elim (chosen (is_brace word) _ _ _ is) [
  | inl (brace, ends) ↦
      let same = from_ok _ (values, rest) ends in
      let none : [] ≡ values = ap (λ (x : List (List ℕ) × List (List ℕ)). x.0) same in
      let after : words ≡ rest = ap (λ (x : List (List ℕ) × List (List ℕ)). x.1) same in
      let text : word ≡ codes "}" = same_text word (codes "}") brace in
      subst (λ (vs : List (List ℕ)). (word ∷ words ≡ vs ++ codes "}" ∷ rest) × (list_any is_dashed vs ≡ false) × (list_any is_brace vs ≡ false)) none
      (ap (λ (w : List ℕ). w ∷ words) text ∙ ap (λ (ws : List (List ℕ)). codes "}" ∷ ws) after, refl, refl)
  | inr (other, goes_on) ↦
      let value = bind_ok (value_of word) _ (values, rest) goes_on in
      let more = bind_ok (values_to_brace words) _ (values, rest) value.2 in
      let plain = value_of-ok word value.0 value.1 in
      let others = values_to_brace-found words more.0.0 more.0.1 more.1 in
      let same = from_ok _ (values, rest) more.2 in
      let all : value.0 ∷ more.0.0 ≡ values = ap (λ (x : List (List ℕ) × List (List ℕ)). x.0) same in
      let after : more.0.1 ≡ rest = ap (λ (x : List (List ℕ) × List (List ℕ)). x.1) same in
      subst (λ (vs : List (List ℕ)). (word ∷ words ≡ vs ++ codes "}" ∷ rest) × (list_any is_dashed vs ≡ false) × (list_any is_brace vs ≡ false))
      (ap (λ (w : List ℕ). w ∷ more.0.0) plain.1 ∙ all) (
        ap (λ (ws : List (List ℕ)). word ∷ ws) (others.0 ∙ ap (λ (r : List (List ℕ)). more.0.0 ++ codes "}" ∷ r) after),
        or_from _ _ plain.0 others.1,
        or_from _ _ other others.2,
      )
]

pub word_at-found : (words : List (List ℕ)) (x : List ℕ × List (List ℕ)) → word_at words ≡ Ok x → words ≡ x.0 ∷ x.1
word_at-found [] x is = cc
word_at-found (word ∷ words) x is = let same = from_ok _ x is in ap (λ (y : List ℕ × List (List ℕ)). y.0 ∷ y.1) same

-- what was read at a test's beginning stood there
head_at-found : (words : List (List ℕ)) (x : Subject × Bool × List ℕ × List (List ℕ)) → head_at words ≡ Ok x
    → (subject : List ℕ) × (subject_of subject ≡ Some x.0) × (words ≡ (subject ∷ flag x.1) ++ x.2 ∷ x.3)
unfolding head_at
head_at-found [] x is = absurd (let none = is in cc)
head_at-found (first ∷ []) x is = let of = bind_ok (ok_or (subject_of first) causes.Condition) _ x is in absurd (let none = of.2 in cc)
head_at-found (first ∷ second ∷ words) x is =
    let of = bind_ok (ok_or (subject_of first) causes.Condition) _ x is in
    let known = ok_or_ok (subject_of first) causes.Condition of.0 of.1 in
    elim (chosen (bytes_eq second (codes "-i")) _ _ _ of.2) [
      | inl (ignores, third) ↦
          let text : second ≡ codes "-i" = same_text second (codes "-i") ignores in
          let value = bind_ok (word_at words) _ x third in
          let same = from_ok _ x value.2 in
          subst (λ (y : Subject × Bool × List ℕ × List (List ℕ)). (subject : List ℕ) × (subject_of subject ≡ Some y.0)
          × (first ∷ second ∷ words ≡ (subject ∷ flag y.1) ++ y.2 ∷ y.3)) same (
            first,
            known,
            ap (λ (w : List ℕ). first ∷ w ∷ words) text
                ∙ ap (λ (ws : List (List ℕ)). first ∷ codes "-i" ∷ ws) (word_at-found words value.0 value.1),
          )
      | inr (other, here) ↦
          let same = from_ok _ x here in
          subst (λ (y : Subject × Bool × List ℕ × List (List ℕ)). (subject : List ℕ) × (subject_of subject ≡ Some y.0)
          × (first ∷ second ∷ words ≡ (subject ∷ flag y.1) ++ y.2 ∷ y.3)) same
          (first, known, refl)
    ]

-- a test's beginning is read as it is spelled
head_at-again : (subject : List ℕ) (of : Subject) (ignore_case : Bool) (value : List ℕ) (rest : List (List ℕ)) → subject_of subject ≡ Some of
    → is_dashed value ≡ false
    → head_at ((subject ∷ flag ignore_case) ++ value ∷ rest) ≡ Ok (of, ignore_case, value, rest)
unfolding head_at
head_at-again subject of true value rest known plain = rw known refl
head_at-again subject of false value rest known plain =
    let other : bytes_eq value (codes "-i") ≡ false = not_text is_dashed value (codes "-i") plain refl in
    rw (known, other) refl

-- the spelling of a test in braces from those of its parts
in_braces : (words : List (List ℕ)) (of : Subject) (ignore_case : Bool) (value first : List ℕ) (behind others rest : List (List ℕ))
    → ((subject : List ℕ) × (subject_of subject ≡ Some of) × (words ≡ (subject ∷ flag ignore_case) ++ value ∷ behind))
    → is_brace value ≡ false → is_dashed value ≡ false → value ≡ first
    → (behind ≡ others ++ codes "}" ∷ rest) × (list_any is_dashed others ≡ false) × (list_any is_brace others ≡ false)
    → (inside : List (List ℕ)) × (words ≡ inside ++ codes "}" ∷ rest)
    × IsTest inside (record { subject = of; ignore_case = ignore_case; values = first ∷ others })
    × (list_any is_brace (first ∷ others) ≡ false)
in_braces words of ignore_case value first behind others rest start open_ plain same more = (
  (start.0 ∷ flag ignore_case) ++ first ∷ others,
  start.2 ∙ ap (λ (v : List ℕ). (start.0 ∷ flag ignore_case) ++ v ∷ behind) same
      ∙ ap (λ (ws : List (List ℕ)). (start.0 ∷ flag ignore_case) ++ first ∷ ws) more.0
      ∙ sym (append_assoc (start.0 ∷ flag ignore_case) (first ∷ others) (codes "}" ∷ rest)),
  record { subject = start.0; known = start.1; is = refl; some = omega arith; plain = or_from _ _ (ap is_dashed (sym same) ∙ plain) more.1 },
  or_from _ _ (ap is_brace (sym same) ∙ open_) more.2,
)

-- a test in braces was spelled as one
pub test_in_braces-found : (words : List (List ℕ)) (x : Test × List (List ℕ)) → test_in_braces words ≡ Ok x
    → (inside : List (List ℕ)) × (words ≡ inside ++ codes "}" ∷ x.1) × IsTest inside x.0 × (list_any is_brace x.0.values ≡ false)
unfolding test_in_braces
test_in_braces-found words x is =
    let head = bind_ok (head_at words) _ x is in
    let brace = bind_ok (unless (is_brace head.0.2) causes.Condition) _ x head.2 in
    let first = bind_ok (value_of head.0.2) _ x brace.2 in
    let more = bind_ok (values_to_brace head.0.3) _ x first.2 in
    let plain = value_of-ok head.0.2 first.0 first.1 in
    subst (λ (y : Test × List (List ℕ)). (inside : List (List ℕ)) × (words ≡ inside ++ codes "}" ∷ y.1) × IsTest inside y.0
    × (list_any is_brace y.0.values ≡ false)) (from_ok _ x more.2)
    (in_braces words head.0.0 head.0.1 head.0.2 first.0 head.0.3 more.0.0 more.0.1 (head_at-found words head.0 head.1)
    (unless_ok (is_brace head.0.2) causes.Condition brace.0 brace.1) plain.0 plain.1 (values_to_brace-found head.0.3 more.0.0 more.0.1 more.1))

braces_again : (subject : List ℕ) (of : Subject) (ignore_case : Bool) (values rest : List (List ℕ)) → subject_of subject ≡ Some of → 0 < length values
    → list_any is_dashed values ≡ false → list_any is_brace values ≡ false
    → test_in_braces (((subject ∷ flag ignore_case) ++ values) ++ codes "}" ∷ rest)
    ≡ Ok (record { subject = of; ignore_case = ignore_case; values = values }, rest)
unfolding test_in_braces
braces_again subject of ignore_case [] rest known some plain open_ = absurd (omega arith)
braces_again subject of ignore_case (value ∷ values) rest known some plain open_ =
    let p = or_parts (is_dashed value) (list_any is_dashed values) plain in
    let o = or_parts (is_brace value) (list_any is_brace values) open_ in
    ap test_in_braces (append_assoc (subject ∷ flag ignore_case) (value ∷ values) (codes "}" ∷ rest))
    ∙ rw (head_at-again subject of ignore_case value (values ++ codes "}" ∷ rest) known p.0, o.0, p.0, values_to_brace-again values rest p.1 o.1) refl

-- and what is spelled as one is read
pub test_in_braces-again : (inside : List (List ℕ)) (test : Test) (rest : List (List ℕ)) → IsTest inside test → list_any is_brace test.values ≡ false
    → test_in_braces (inside ++ codes "}" ∷ rest) ≡ Ok (test, rest)
test_in_braces-again inside test rest spelled open_ =
    ap (λ (words : List (List ℕ)). test_in_braces (words ++ codes "}" ∷ rest)) spelled.is
    ∙ braces_again spelled.subject test.subject test.ignore_case test.values rest spelled.known spelled.some spelled.plain open_
