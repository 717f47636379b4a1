-- A word that is no term of a condition, behind whatever terms.
use Rattle.std.proofs.Common.{◌≡◌, ◌∙◌, ◌≤◌, ◌||◌, ℕ, zero, suc, Bool, true, false, List}
use Rattle.std.proofs.Common.{[], ◌∷◌, ◌++◌, length, Err, refl, ap, arith, append_assoc, length-append, codes}
use Rattle.std.specs.List.{list_all}
use Rattle.std.specs.Str.{bytes_eq}
use Rattle.std.proofs.lemmas.Bool.{or_from}
use Rattle.proxy_words.specs.Names.{is_name_byte}
use Rattle.proxy_config.specs.declared.faults.FaultCause.{FaultCause}
use Rattle.proxy_config.specs.declared.parts.Acl.{Acl}
use Rattle.proxy_config.specs.declared.parts.Term.{Term}
use Rattle.proxy_config.specs.Conditions.{alternatives, condition, guard_at, is_or, operand_at, term_at}
use Rattle.proxy_config.specs.ConditionGrammar.{AreSeparated}
use Rattle.proxy_config.specs.Faulty as fault
use Rattle.proxy_config.specs.Faulty.{IsFront, LastMayBeEmpty, NoTerm, is_guard}
use Rattle.proxy_config.proofs.ConditionWords.{rows_after, term_at-plain, name_parts, name_no_sign, is_no, signed_again, separated-split}

-- such a word separates nothing, and has its cause where a term is read
no_term : (acls : List Acl) (word : List ℕ) (words : List (List ℕ)) (cause : FaultCause) → NoTerm acls word cause
    → (is_or word ≡ false) × (term_at acls word words ≡ Err cause)
unfolding operand_at
no_term acls word words cause (fault.undeclared name none) =
    let parts = name_parts word name in
    let no_brace : bytes_eq word (codes "{") ≡ false = is_no (list_all is_name_byte) word (codes "{") parts.0 refl in (
      or_from _ _ parts.1 (is_no (list_all is_name_byte) word (codes "||") parts.0 refl),
      term_at-plain acls word words (name_no_sign word name) ∙ rw (no_brace, name, none) refl,
    )
no_term acls word words cause (fault.no_name name plain no_brace no_or) = (no_or, term_at-plain acls word words plain ∙ rw (no_brace, name) refl)

others_begun : (begins : Bool) (terms : List Term) (more : List (List Term)) → LastMayBeEmpty (rows_after begins (terms ∷ more)) → LastMayBeEmpty more
others_begun true terms [] begun = tt
others_begun true terms (next ∷ more) begun = begun.1
others_begun false terms more begun = begun

behind_rows : (n : ℕ) (acls : List Acl) (begins : Bool) (front : List (List ℕ)) (rows : List (List Term)) (word : List ℕ) (more : List (List ℕ))
    (cause : FaultCause) → length (front ++ word ∷ more) ≤ n → AreSeparated acls front rows → LastMayBeEmpty (rows_after begins rows) → NoTerm acls word cause
    → alternatives n acls begins (front ++ word ∷ more) ≡ Err cause
unfolding alternatives
behind_rows n acls begins front [] word more cause enough is begun none = absurd is
behind_rows zero acls begins front ([] ∷ []) word more cause enough is begun none = absurd (omega (arith, enough, length-append front (word ∷ more)))
behind_rows (suc n) acls begins front ([] ∷ []) word more cause enough is begun none =
    let faulty = no_term acls word more cause none in
    ap (λ ws. alternatives (suc n) acls begins (ws ++ word ∷ more)) is ∙ rw (faulty.0, faulty.1) refl
behind_rows n acls true front ([] ∷ next ∷ rows) word more cause enough is begun none = absurd (omega (arith, begun.0))
behind_rows zero acls false front ([] ∷ next ∷ rows) word more cause enough is begun none =
    absurd (omega (arith, enough, length-append front (word ∷ more)))
behind_rows (suc n) acls false front ([] ∷ next ∷ rows) word more cause enough is begun none =
    let spelled : front ≡ is.1 ∷ is.2 = is.3 ∙ ap (λ (ws : List (List ℕ)). ws ++ is.1 ∷ is.2) is.4 in
    let shorter : length (is.2 ++ word ∷ more) ≤ n = omega (arith, enough, ap (λ (ws : List (List ℕ)). length (ws ++ word ∷ more)) spelled) in
    let again = behind_rows n acls true is.2 (next ∷ rows) word more cause shorter is.6 begun none in
    let separates : is_or is.1 ≡ true = is.5 in
    ap (λ (ws : List (List ℕ)). alternatives (suc n) acls false (ws ++ word ∷ more)) spelled ∙ rw (separates, again) refl
behind_rows zero acls begins front ((term ∷ terms) ∷ rows) word more cause enough is begun none =
    absurd (omega (arith, enough, length-append front (word ∷ more)))
behind_rows (suc n) acls begins front ((term ∷ terms) ∷ rows) word more cause enough is begun none =
    let first = separated-split acls front term terms rows is in
    let again = signed_again acls first.0 term.negated term.operand first.3 in
    let rest : List (List ℕ) = first.1 ++ word ∷ more in
    let spelled : (front ++ word ∷ more) ≡ again.0 ∷ (again.1 ++ rest) =
    ap (λ (ws : List (List ℕ)). ws ++ word ∷ more) (first.2 ∙ ap (λ (ws : List (List ℕ)). ws ++ first.1) again.2)
    ∙ ap (λ (ws : List (List ℕ)). again.0 ∷ ws) (append_assoc again.1 first.1 (word ∷ more)) in
    let shorter : length rest ≤ n = omega (arith, enough, ap length spelled, length-append again.1 rest) in
    let others = behind_rows n acls false first.1 (terms ∷ rows) word more cause shorter first.4 (others_begun begins (term ∷ terms) rows begun) none in
    ap (alternatives (suc n) acls begins) spelled ∙ rw (again.3, again.4 rest, others) refl

in_condition : (acls : List Acl) (front : List (List ℕ)) (word : List ℕ) (more : List (List ℕ)) (cause : FaultCause) → IsFront acls front
    → NoTerm acls word cause → condition acls (front ++ word ∷ more) ≡ Err cause
in_condition acls front word more cause is none =
    rw (behind_rows (length (front ++ word ∷ more)) acls true front is.rows word more cause (omega arith) is.spelled is.begun none) refl

pub in_guard : (acls : List Acl) (guard : List ℕ) (front : List (List ℕ)) (word : List ℕ) (more : List (List ℕ)) (cause : FaultCause) → is_guard guard ≡ true
    → IsFront acls front → NoTerm acls word cause → guard_at acls guard (front ++ word ∷ more) ≡ Err cause
unfolding guard_at
in_guard acls guard front word more cause guards is none =
    by_word (bytes_eq guard (codes "if")) (bytes_eq guard (codes "unless")) refl refl guards
  where
    by_word : (one other : Bool) → bytes_eq guard (codes "if") ≡ one → bytes_eq guard (codes "unless") ≡ other → (one || other) ≡ true
        → guard_at acls guard (front ++ word ∷ more) ≡ Err cause
    by_word true other is_if is_other either = rw (is_if, in_condition acls front word more cause is none) refl
    by_word false true is_if is_other either = rw (is_if, is_other, in_condition acls front word more cause is none) refl
    by_word false false is_if is_other either = absurd (let never = either in cc)
