-- Behind a term there are no more words than before it.
use Rattle.std.proofs.Common.{◌≡◌, inl, inr, ◌≤◌, ◌==◌, ℕ, Bool, true, false, not, List, [], ◌∷◌, length, Ok, ap, arith, codes}
use Rattle.std.specs.Option.{ok_or}
use Rattle.std.specs.Str.{bytes_eq}
use Rattle.proxy_config.specs.declared.faults.FaultCause.TheVariants as causes
use Rattle.proxy_config.specs.declared.parts.Acl.{Acl}
use Rattle.proxy_config.specs.declared.parts.Subject.{Subject}
use Rattle.proxy_config.specs.declared.parts.Test.{Test}
use Rattle.proxy_config.specs.declared.parts.Term.{Term}
use Rattle.proxy_config.specs.Outcomes.{unless}
use Rattle.proxy_config.specs.Pieces.{word_at}
use Rattle.proxy_config.specs.Names.{is_acl_name}
use Rattle.proxy_config.specs.Samples.{head_at, subject_of, value_of, values_to_brace, test_in_braces, is_brace}
use Rattle.proxy_config.specs.Conditions.{acl_index, operand_at, term_at}
use Rattle.proxy_config.proofs.Outcomes.{bind_ok, chosen, from_ok}

pub word_at-shorter : (words : List (List ℕ)) (x : List ℕ × List (List ℕ)) → word_at words ≡ Ok x → length x.1 ≤ length words
word_at-shorter [] x is = cc
word_at-shorter (word ∷ words) x is = let same = from_ok _ x is in omega (arith, ap (λ (y : List ℕ × List (List ℕ)). length y.1) same)

-- the same of a test's beginning
head_at-shorter : (words : List (List ℕ)) (x : Subject × Bool × List ℕ × List (List ℕ)) → head_at words ≡ Ok x → length x.3 ≤ length words
unfolding head_at
head_at-shorter [] x is = cc
head_at-shorter (first ∷ []) x is = let of = bind_ok (ok_or (subject_of first) causes.Condition) _ x is in absurd (let no = of.2 in cc)
head_at-shorter (first ∷ second ∷ []) x is = let of = bind_ok (ok_or (subject_of first) causes.Condition) _ x is in
    elim (chosen (bytes_eq second (codes "-i")) _ _ _ of.2) [
      | inl (flag, ends) ↦ absurd (let no = ends in cc)
      | inr (other, is_it) ↦ let same = from_ok _ x is_it in omega (arith, ap (λ (y : Subject × Bool × List ℕ × List (List ℕ)). length y.3) same)
    ]
head_at-shorter (first ∷ second ∷ third ∷ words) x is = let of = bind_ok (ok_or (subject_of first) causes.Condition) _ x is in
    elim (chosen (bytes_eq second (codes "-i")) _ _ _ of.2) [
      | inl (flag, is_it) ↦ let same = from_ok _ x is_it in omega (arith, ap (λ (y : Subject × Bool × List ℕ × List (List ℕ)). length y.3) same)
      | inr (other, is_it) ↦ let same = from_ok _ x is_it in omega (arith, ap (λ (y : Subject × Bool × List ℕ × List (List ℕ)). length y.3) same)
    ]

values_to_brace-shorter : (words : List (List ℕ)) (x : List (List ℕ) × List (List ℕ)) → values_to_brace words ≡ Ok x → length x.1 ≤ length words
values_to_brace-shorter [] x is = cc
values_to_brace-shorter (word ∷ words) x is = elim (chosen (is_brace word) _ _ _ is) [
  | inl (brace, ends) ↦ let same = from_ok _ x ends in omega (arith, ap (λ (y : List (List ℕ) × List (List ℕ)). length y.1) same)
  | inr (more, goes_on) ↦ let value = bind_ok (value_of word) _ x goes_on in let others = bind_ok (values_to_brace words) _ x value.2 in
      let same = from_ok _ x others.2 in let shorter = values_to_brace-shorter words others.0 others.1 in
      omega (arith, ap (λ (y : List (List ℕ) × List (List ℕ)). length y.1) same)
]

test_in_braces-shorter : (words : List (List ℕ)) (x : Test × List (List ℕ)) → test_in_braces words ≡ Ok x → length x.1 ≤ length words
unfolding test_in_braces
test_in_braces-shorter words x is =
    let head = bind_ok (head_at words) _ x is in
    let brace = bind_ok (unless (is_brace head.0.2) causes.Condition) _ x head.2 in
    let first = bind_ok (value_of head.0.2) _ x brace.2 in
    let more = bind_ok (values_to_brace head.0.3) _ x first.2 in
    let same = from_ok _ x more.2 in
    omega (arith, head_at-shorter words head.0 head.1, values_to_brace-shorter head.0.3 more.0 more.1, ap (λ (y : Test × List (List ℕ)). length y.1) same)

operand_at-shorter : (acls : List Acl) (negated : Bool) (word : List ℕ) (words : List (List ℕ)) (x : Term × List (List ℕ))
    → operand_at acls negated word words ≡ Ok x → length x.1 ≤ length words
unfolding operand_at
operand_at-shorter acls negated word words x is = elim (chosen (bytes_eq word (codes "{")) _ _ _ is) [
  | inl (brace, test) ↦ let inside = bind_ok (test_in_braces words) _ x test in let same = from_ok _ x inside.2 in
      omega (arith, test_in_braces-shorter words inside.0 inside.1, ap (λ (y : Term × List (List ℕ)). length y.1) same)
  | inr (other, named) ↦ let name = bind_ok (unless (not (is_acl_name word)) causes.Condition) _ x named in
      let index = bind_ok (ok_or (acl_index word acls) causes.Unknown) _ x name.2 in let same = from_ok _ x index.2 in
      omega (arith, ap (λ (y : Term × List (List ℕ)). length y.1) same)
]

pub term_at-shorter : (acls : List Acl) (word : List ℕ) (words : List (List ℕ)) (x : Term × List (List ℕ)) → term_at acls word words ≡ Ok x
    → length x.1 ≤ length words
unfolding term_at
term_at-shorter acls [] words x is = operand_at-shorter acls false [] words x is
term_at-shorter acls (byte ∷ []) words x is = elim (chosen (byte == 33) _ _ _ is) [
  | inl (sign, later) ↦ let next = bind_ok (word_at words) _ x later in
      omega (arith, word_at-shorter words next.0 next.1, operand_at-shorter acls true next.0.0 next.0.1 x next.2)
  | inr (other, here) ↦ operand_at-shorter acls false (byte ∷ []) words x here
]
term_at-shorter acls (byte ∷ second ∷ rest) words x is = elim (chosen (byte == 33) _ _ _ is) [
  | inl (sign, joined) ↦ operand_at-shorter acls true (second ∷ rest) words x joined
  | inr (other, here) ↦ operand_at-shorter acls false (byte ∷ second ∷ rest) words x here
]
