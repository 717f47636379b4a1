-- The words of a condition, read and spelled.
use Rattle.std.proofs.Common.{◌≡◌, ◌∙◌, ◌⊎◌, inl, inr, ◌≤◌, ◌==◌, ℕ, zero, suc, Bool, true, false, not, List}
use Rattle.std.proofs.Common.{[], ◌∷◌, ◌++◌, length, Result, Ok, refl, sym, ap, subst, arith, append_assoc, length-append, codes}
use Rattle.std.specs.List.{list_all, onto_first}
use Rattle.std.specs.Option.{ok_or}
use Rattle.std.specs.Str.{bytes_eq}
use Rattle.std.proofs.lemmas.Bool.{eqb-true, and_parts, not-false, or_from}
use Rattle.proxy_config.specs.declared.faults.FaultCause.{FaultCause}
use Rattle.proxy_config.specs.declared.faults.FaultCause.TheVariants as causes
use Rattle.proxy_config.specs.declared.parts.Acl.{Acl}
use Rattle.proxy_config.specs.declared.parts.Condition.{Condition}
use Rattle.proxy_config.specs.declared.parts.Operand.{Operand}
use Rattle.proxy_config.specs.declared.parts.Operand.TheVariants as operands
use Rattle.proxy_config.specs.declared.parts.Term.{Term}
use Rattle.proxy_config.specs.Outcomes.{unless}
use Rattle.proxy_words.specs.Names.{is_name_byte}
use Rattle.proxy_config.specs.Names.{is_acl_name}
use Rattle.proxy_config.specs.Pieces.{word_at}
use Rattle.proxy_config.specs.Samples.{test_in_braces}
use Rattle.proxy_config.specs.Conditions.{acl_index, alternatives, condition, is_or, operand_at, term_at}
use Rattle.proxy_config.specs.ConditionGrammar.{IsOperand, IsSigned, IsTerm, AreSeparated, NoneEmpty, IsCondition, with_sign}
use Rattle.proxy_config.specs.Faulty.{has_sign}
use Rattle.proxy_config.proofs.Outcomes.{bind_ok, chosen, from_ok, ok_or_ok, unless_ok}
use Rattle.proxy_config.proofs.TestWords.{same_text, not_text, word_at-found, test_in_braces-found, test_in_braces-again}

-- an operand was spelled as one
operand_at-found : (acls : List Acl) (negated : Bool) (word : List ℕ) (words : List (List ℕ)) (x : Term × List (List ℕ))
    → operand_at acls negated word words ≡ Ok x
    → (x.0.negated ≡ negated) × (front : List (List ℕ)) × (word ∷ words ≡ front ++ x.1) × IsOperand acls front x.0.operand
unfolding operand_at
operand_at-found acls negated word words x is = elim (chosen (bytes_eq word (codes "{")) _ _ _ is) [
  | inl (brace, test) ↦
      let read = bind_ok (test_in_braces words) _ x test in
      let spelled = test_in_braces-found words read.0 read.1 in
      let opening : word ≡ codes "{" = same_text word (codes "{") brace in
      subst (λ (y : Term × List (List ℕ)). (y.0.negated ≡ negated) × (front : List (List ℕ)) × (word ∷ words ≡ front ++ y.1) × IsOperand acls front y.0.operand)
      (from_ok _ x read.2) (
        refl,
        (codes "{" ∷ spelled.0) ++ codes "}" ∷ [],
        ap (λ (w : List ℕ). w ∷ words) opening ∙ ap (λ (ws : List (List ℕ)). codes "{" ∷ ws) spelled.1
            ∙ sym (append_assoc (codes "{" ∷ spelled.0) (codes "}" ∷ []) read.0.1),
        (spelled.0, refl, spelled.2, spelled.3),
      )
  | inr (other, name) ↦
      let named = bind_ok (unless (not (is_acl_name word)) causes.Condition) _ x name in
      let index = bind_ok (ok_or (acl_index word acls) causes.Unknown) _ x named.2 in
      subst (λ (y : Term × List (List ℕ)). (y.0.negated ≡ negated) × (front : List (List ℕ)) × (word ∷ words ≡ front ++ y.1) × IsOperand acls front y.0.operand)
      (from_ok _ x index.2) (
        refl,
        word ∷ [],
        refl,
        (
          word,
          refl,
          not-false (is_acl_name word) (unless_ok (not (is_acl_name word)) causes.Condition named.0 named.1),
          ok_or_ok (acl_index word acls) causes.Unknown index.0 index.1,
        ),
      )
]

signed_plain : (negated : Bool) (acls : List Acl) (words : List (List ℕ)) (operand : Operand) → negated ≡ false → IsOperand acls words operand
    → IsSigned negated acls words operand
signed_plain negated acls words operand plain is = subst (λ (b : Bool). IsSigned b acls words operand) (sym plain) is

signed_not : (negated : Bool) (acls : List Acl) (words unsigned : List (List ℕ)) (operand : Operand) → negated ≡ true → IsOperand acls unsigned operand
    → (words ≡ codes "!" ∷ unsigned) ⊎ (words ≡ with_sign unsigned) → IsSigned negated acls words operand
signed_not negated acls words unsigned operand sign is spelled = subst (λ (b : Bool). IsSigned b acls words operand) (sym sign) (unsigned, is, spelled)

-- an operand has a first word
operand_some : (acls : List Acl) (operand : Operand) → IsOperand acls [] operand → ⊥
operand_some acls (operands.Acl index) is = absurd (let none = is.1 in cc)
operand_some acls (operands.Test test) is = absurd (let none = is.1 in cc)

-- a sign goes to the first word
sign_first : (acls : List Acl) (operand : Operand) (word : List ℕ) (words front rest : List (List ℕ)) → IsOperand acls front operand
    → word ∷ words ≡ front ++ rest
    → (33 ∷ word) ∷ words ≡ with_sign front ++ rest
sign_first acls operand word words [] rest is spelled = absurd (operand_some acls operand is)
sign_first acls operand word words (first ∷ front) rest is spelled = cc

-- a term was spelled as one
term_at-found : (acls : List Acl) (word : List ℕ) (words : List (List ℕ)) (x : Term × List (List ℕ)) → term_at acls word words ≡ Ok x
    → (front : List (List ℕ)) × (word ∷ words ≡ front ++ x.1) × IsTerm acls front x.0
unfolding term_at
term_at-found acls [] words x is =
    let found = operand_at-found acls false [] words x is in
    (found.1, found.2, signed_plain x.0.negated acls found.1 x.0.operand found.0 found.3)
term_at-found acls (byte ∷ []) words x is = elim (chosen (byte == 33) _ _ _ is) [
  | inl (sign, apart) ↦
      let next = bind_ok (word_at words) _ x apart in
      let found = operand_at-found acls true next.0.0 next.0.1 x next.2 in
      let sign_is : byte ≡ 33 = eqb-true byte 33 sign in (
        codes "!" ∷ found.1,
        ap (λ (b : ℕ). (b ∷ []) ∷ words) sign_is ∙ ap (λ (ws : List (List ℕ)). codes "!" ∷ ws) (word_at-found words next.0 next.1 ∙ found.2),
        signed_not x.0.negated acls _ found.1 x.0.operand found.0 found.3 (inl refl),
      )
  | inr (other, plain) ↦
      let found = operand_at-found acls false (byte ∷ []) words x plain in
      (found.1, found.2, signed_plain x.0.negated acls found.1 x.0.operand found.0 found.3)
]
term_at-found acls (byte ∷ second ∷ rest) words x is = elim (chosen (byte == 33) _ _ _ is) [
  | inl (sign, joined) ↦
      let found = operand_at-found acls true (second ∷ rest) words x joined in
      let sign_is : byte ≡ 33 = eqb-true byte 33 sign in (
        with_sign found.1,
        ap (λ (b : ℕ). (b ∷ second ∷ rest) ∷ words) sign_is ∙ sign_first acls x.0.operand (second ∷ rest) words found.1 x.1 found.3 found.2,
        signed_not x.0.negated acls _ found.1 x.0.operand found.0 found.3 (inr refl),
      )
  | inr (other, plain) ↦
      let found = operand_at-found acls false (byte ∷ second ∷ rest) words x plain in
      (found.1, found.2, signed_plain x.0.negated acls found.1 x.0.operand found.0 found.3)
]

-- all rows but one that was begun before
abbrev pub rows_after : Bool → List (List Term) → List (List Term)
rows_after true rows = rows
rows_after false [] = []
rows_after false (row ∷ rows) = rows

-- a term before the rows that follow it
separated-first : (acls : List Acl) (words front rest : List (List ℕ)) (term : Term) (rows : List (List Term)) → words ≡ front ++ rest → IsTerm acls front term
    → AreSeparated acls rest rows → AreSeparated acls words (onto_first term rows)
separated-first acls words front rest term [] spelled is more = absurd more
separated-first acls words front rest term (terms ∷ []) spelled is more = (front, rest, spelled, is, more)
separated-first acls words front rest term (terms ∷ next ∷ rows) spelled is more = (
  front ++ more.0,
  more.1,
  more.2,
  spelled ∙ ap (λ (ws : List (List ℕ)). front ++ ws) more.3 ∙ sym (append_assoc front more.0 (more.1 ∷ more.2)),
  (front, more.0, refl, is, more.4),
  more.5,
  more.6,
)

-- a separator before other rows
separated-separator : (acls : List Acl) (separator : List ℕ) (words : List (List ℕ)) (rows : List (List Term)) → is_or separator ≡ true
    → AreSeparated acls words rows
    → AreSeparated acls (separator ∷ words) ([] ∷ rows)
separated-separator acls separator words [] is more = absurd more
separated-separator acls separator words (next ∷ rows) is more = ([], separator, words, refl, refl, is, more)

none_empty-first : (begins : Bool) (term : Term) (rows : List (List Term)) → NoneEmpty (rows_after false rows)
    → NoneEmpty (rows_after begins (onto_first term rows))
none_empty-first true term [] some = (omega arith, tt)
none_empty-first true term (row ∷ rows) some = (omega arith, some)
none_empty-first false term [] some = tt
none_empty-first false term (row ∷ rows) some = some

no_words : (acls : List Acl) (rows : List (List Term)) → (let one : Result (List (List Term)) FaultCause = Ok ([] ∷ []) in one ≡ Ok rows)
    → AreSeparated acls [] rows × NoneEmpty (rows_after false rows)
no_words acls rows is = subst (λ (all : List (List Term)). AreSeparated acls [] all × NoneEmpty (rows_after false all)) (from_ok _ rows is) (refl, tt)

-- what was read is separated rows, none of which is empty
alternatives-found : (n : ℕ) (acls : List Acl) (begins : Bool) (words : List (List ℕ)) (rows : List (List Term)) → alternatives n acls begins words ≡ Ok rows
    → AreSeparated acls words rows × NoneEmpty (rows_after begins rows)
unfolding alternatives
alternatives-found zero acls true [] rows is = absurd (let none = is in cc)
alternatives-found (suc n) acls true [] rows is = absurd (let none = is in cc)
alternatives-found zero acls false [] rows is = no_words acls rows is
alternatives-found (suc n) acls false [] rows is = no_words acls rows is
alternatives-found zero acls begins (word ∷ words) rows is = absurd (let none = is in cc)
alternatives-found (suc n) acls begins (word ∷ words) rows is = elim (chosen (is_or word) _ _ _ is) [
  | inl (separates, after) ↦ elim (chosen begins _ _ _ after) [
    | inl (early, fault) ↦ absurd (let none = fault in cc)
    | inr (later, more) ↦
        let others = bind_ok (alternatives n acls true words) _ rows more in
        let found = alternatives-found n acls true words others.0 others.1 in
        subst (λ (all : List (List Term)). AreSeparated acls (word ∷ words) all × NoneEmpty (rows_after begins all)) (from_ok _ rows others.2)
        (separated-separator acls word words others.0 separates found.0, subst (λ (b : Bool). NoneEmpty (rows_after b ([] ∷ others.0))) (sym later) found.1)
  ]
  | inr (other, term) ↦
      let read = bind_ok (term_at acls word words) _ rows term in
      let others = bind_ok (alternatives n acls false read.0.1) _ rows read.2 in
      let spelled = term_at-found acls word words read.0 read.1 in
      let found = alternatives-found n acls false read.0.1 others.0 others.1 in
      subst (λ (all : List (List Term)). AreSeparated acls (word ∷ words) all × NoneEmpty (rows_after begins all)) (from_ok _ rows others.2)
      (separated-first acls (word ∷ words) spelled.0 read.0.1 read.0.0 others.0 spelled.1 spelled.2 found.0, none_empty-first begins read.0.0 others.0 found.1)
]

-- a term without a sign is its operand
pub term_at-plain : (acls : List Acl) (word : List ℕ) (words : List (List ℕ)) → has_sign word ≡ false
    → term_at acls word words ≡ operand_at acls false word words
unfolding term_at
term_at-plain acls [] words plain = refl
term_at-plain acls (byte ∷ []) words plain = rw plain refl
term_at-plain acls (byte ∷ second ∷ rest) words plain = rw plain refl

pub name_parts : (word : List ℕ) → is_acl_name word ≡ true → (list_all is_name_byte word ≡ true) × (bytes_eq word (codes "or") ≡ false)
name_parts word name =
    let parts = and_parts _ (not (bytes_eq word (codes "or"))) name in
    let whole = and_parts _ (list_all is_name_byte word) parts.0 in
    (whole.1, not_true (bytes_eq word (codes "or")) parts.1)
  where
    not_true : (b : Bool) → not b ≡ true → b ≡ false
    not_true true is = cc
    not_true false is = refl

-- the name of an ACL has no sign and is no separator and no brace
pub name_no_sign : (word : List ℕ) → is_acl_name word ≡ true → has_sign word ≡ false
name_no_sign [] name = refl
name_no_sign (byte ∷ word) name =
    let bytes = and_parts (is_name_byte byte) (list_all is_name_byte word) (name_parts (byte ∷ word) name).0 in
    tells (byte == 33) refl bytes.0
  where
    tells : (b : Bool) → (byte == 33) ≡ b → is_name_byte byte ≡ true → (byte == 33) ≡ false
    tells true is holds = let sign : byte ≡ 33 = eqb-true byte 33 is in absurd (let both : true ≡ false = sym holds ∙ ap is_name_byte sign in cc)
    tells false is holds = is

pub is_no : (p : List ℕ → Bool) (word text : List ℕ) → p word ≡ true → p text ≡ false → bytes_eq word text ≡ false
is_no p word text holds fails = not_text (λ w. not (p w)) word text (ap not holds) (ap not fails)

name_some : (word : List ℕ) → is_acl_name word ≡ true → (byte : ℕ) × (more : List ℕ) × (word ≡ byte ∷ more)
name_some [] name = absurd (let none = name in cc)
name_some (byte ∷ more) name = (byte, more, refl)

-- an operand that was spelled is read again
operand_again : (acls : List Acl) (front : List (List ℕ)) (operand : Operand) → IsOperand acls front operand
    → (word : List ℕ) × (words : List (List ℕ)) × (front ≡ word ∷ words) × (is_or word ≡ false) × (has_sign word ≡ false)
    × ((negated : Bool) (rest : List (List ℕ)) → operand_at acls negated word (words ++ rest) ≡ Ok (record { negated = negated; operand = operand }, rest))
    × ((byte : ℕ) × (more : List ℕ) × (word ≡ byte ∷ more))
unfolding operand_at
operand_again acls front (operands.Acl index) is =
    let name = is.0 in
    let parts = name_parts name is.2 in
    let no_bar : bytes_eq name (codes "||") ≡ false = is_no (list_all is_name_byte) name (codes "||") parts.0 refl in
    let no_brace : bytes_eq name (codes "{") ≡ false = is_no (list_all is_name_byte) name (codes "{") parts.0 refl in
    (name, [], is.1, or_from _ _ parts.1 no_bar, name_no_sign name is.2, λ negated rest. rw (no_brace, is.2, is.3) refl, name_some name is.2)
operand_again acls front (operands.Test test) is = (
  codes "{",
  is.0 ++ codes "}" ∷ [],
  is.1,
  refl,
  refl,
  λ negated rest. rw (ap test_in_braces (append_assoc is.0 (codes "}" ∷ []) rest), test_in_braces-again is.0 test rest is.2 is.3) refl,
  (123, [], refl),
)

pub signed_again : (acls : List Acl) (front : List (List ℕ)) (negated : Bool) (operand : Operand) → IsSigned negated acls front operand
    → (word : List ℕ) × (words : List (List ℕ)) × (front ≡ word ∷ words) × (is_or word ≡ false)
    × ((rest : List (List ℕ)) → term_at acls word (words ++ rest) ≡ Ok (record { negated = negated; operand = operand }, rest))
unfolding term_at
signed_again acls front false operand is =
    let o = operand_again acls front operand is in
    (o.0, o.1, o.2, o.3, λ rest. term_at-plain acls o.0 (o.1 ++ rest) o.4 ∙ o.5 false rest)
signed_again acls front true operand is =
    let o = operand_again acls is.0 operand is.1 in
    elim is.2 [
      | inl apart ↦ (
        codes "!",
        is.0,
        apart,
        refl,
        λ rest. ap (λ (ws : List (List ℕ)). term_at acls (codes "!") (ws ++ rest)) o.2 ∙ o.5 true rest,
      )
      | inr joined ↦ (
        33 ∷ o.0,
        o.1,
        joined ∙ ap with_sign o.2,
        refl,
        λ rest. ap (λ (w : List ℕ). term_at acls (33 ∷ w) (o.1 ++ rest)) o.6.2 ∙ ap (λ (w : List ℕ). operand_at acls true w (o.1 ++ rest)) (sym o.6.2)
            ∙ o.5 true rest,
      )
    ]

-- the first term of a row, and the rows after it
pub separated-split : (acls : List Acl) (words : List (List ℕ)) (term : Term) (terms : List Term) (more : List (List Term))
    → AreSeparated acls words ((term ∷ terms) ∷ more)
    → (front : List (List ℕ)) × (rest : List (List ℕ)) × (words ≡ front ++ rest) × IsTerm acls front term × AreSeparated acls rest (terms ∷ more)
separated-split acls words term terms [] is = is
separated-split acls words term terms (next ∷ rows) is =
    let first = is.4 in (
      first.0,
      first.1 ++ is.1 ∷ is.2,
      is.3 ∙ ap (λ (ws : List (List ℕ)). ws ++ is.1 ∷ is.2) first.2 ∙ append_assoc first.0 first.1 (is.1 ∷ is.2),
      first.3,
      (first.1, is.1, is.2, refl, first.4, is.5, is.6),
    )

others_some : (begins : Bool) (terms : List Term) (more : List (List Term)) → NoneEmpty (rows_after begins (terms ∷ more)) → NoneEmpty more
others_some true terms more some = some.1
others_some false terms more some = some

-- separated rows, none of which is empty, are read
alternatives-again : (n : ℕ) (acls : List Acl) (begins : Bool) (words : List (List ℕ)) (rows : List (List Term)) → length words ≤ n
    → AreSeparated acls words rows
    → NoneEmpty (rows_after begins rows) → alternatives n acls begins words ≡ Ok rows
unfolding alternatives
alternatives-again n acls begins words [] enough is some = absurd is
alternatives-again n acls true words ([] ∷ more) enough is some = absurd (omega (arith, some.0))
alternatives-again zero acls false words ([] ∷ []) enough is some = rw is refl
alternatives-again (suc n) acls false words ([] ∷ []) enough is some = rw is refl
alternatives-again zero acls false words ([] ∷ next ∷ rows) enough is some =
    absurd (omega (arith, ap length (is.3 ∙ ap (λ (ws : List (List ℕ)). ws ++ is.1 ∷ is.2) is.4)))
alternatives-again (suc n) acls false words ([] ∷ next ∷ rows) enough is some =
    let spelled : words ≡ is.1 ∷ is.2 = is.3 ∙ ap (λ (ws : List (List ℕ)). ws ++ is.1 ∷ is.2) is.4 in
    let again = alternatives-again n acls true is.2 (next ∷ rows) (omega (arith, ap length spelled)) is.6 some in
    let separates : is_or is.1 ≡ true = is.5 in
    ap (alternatives (suc n) acls false) spelled ∙ rw (separates, again) refl
alternatives-again zero acls begins words ((term ∷ terms) ∷ more) enough is some =
    let first = separated-split acls words term terms more is in
    let again = signed_again acls first.0 term.negated term.operand first.3 in
    absurd (omega (arith, ap length (first.2 ∙ ap (λ (ws : List (List ℕ)). ws ++ first.1) again.2)))
alternatives-again (suc n) acls begins words ((term ∷ terms) ∷ more) enough is some =
    let first = separated-split acls words term terms more is in
    let again = signed_again acls first.0 term.negated term.operand first.3 in
    let spelled : words ≡ again.0 ∷ (again.1 ++ first.1) = first.2 ∙ ap (λ (ws : List (List ℕ)). ws ++ first.1) again.2 in
    let shorter : length first.1 ≤ n = omega (arith, ap length spelled, length-append again.1 first.1) in
    let others = alternatives-again n acls false first.1 (terms ∷ more) shorter first.4 (others_some begins (term ∷ terms) more some) in
    ap (alternatives (suc n) acls begins) spelled ∙ rw (again.3, again.4 first.1, others) refl

-- A condition is read exactly where the words are one.
pub condition-found : (acls : List Acl) (words : List (List ℕ)) (c : Condition) → condition acls words ≡ Ok c → IsCondition acls words c
condition-found acls words c is =
    let read = bind_ok (alternatives (length words) acls true words) _ c is in
    subst (λ (one : Condition). IsCondition acls words one) (from_ok _ c read.2) (alternatives-found (length words) acls true words read.0 read.1)

pub condition-again : (acls : List Acl) (words : List (List ℕ)) (c : Condition) → IsCondition acls words c → condition acls words ≡ Ok c
condition-again acls words c is = rw (alternatives-again (length words) acls true words c.alternatives (omega arith) is.0 is.1) refl
