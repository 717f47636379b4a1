-- Reading the alternatives of a condition term by term.
use Rattle.std.proofs.Common.{◌≡◌, ◌∙◌, ◌≤◌, ◌==◌, ◌++◌, ℕ, zero, suc, Bool, true, false, cond, List}
use Rattle.std.proofs.Common.{[], ◌∷◌, length, Result, Ok, Err, refl, sym, ap, arith, append_assoc, length-append}
use Rattle.std.specs.List.{onto_first}
use Rattle.std.proofs.lemmas.Bool.Decides.{nat_tests}
use Rattle.proxy_config.specs.declared.faults.FaultCause.{FaultCause}
use Rattle.proxy_config.specs.declared.faults.FaultCause.TheVariants as causes
use Rattle.proxy_config.specs.declared.parts.Acl.{Acl}
use Rattle.proxy_config.specs.declared.parts.Term.{Term}
use Rattle.proxy_config.specs.declared.faults.LineError.{LineError}
use Rattle.proxy_config.specs.declared.faults.LineError.TheVariants as errors
use Rattle.proxy_config.specs.Outcomes.{◌>>=◌, Fails}
use Rattle.proxy_config.specs.Conditions.{alternatives, is_or, term_at}
use Rattle.proxy_config.proofs.Lengths.{term_at-shorter}
use Rattle.proxy_config.proofs.Outcomes.{same_next}

-- the terms of an alternative before those of the first of others
abbrev pub onto_terms : List Term → List (List Term) → List (List Term)
onto_terms [] more = more
onto_terms (term ∷ terms) more = onto_first term (onto_terms terms more)

-- what was read before, and what is still read
abbrev pub joined : List (List Term) → List Term → Result (List (List Term)) FaultCause → Result (List (List Term)) FaultCause
joined done terms read = read >>= λ more. Ok (done ++ onto_terms terms more)

pub onto_terms-last : (terms : List Term) (term : Term) (more : List (List Term))
    → onto_terms (terms ++ term ∷ []) more ≡ onto_terms terms (onto_first term more)
onto_terms-last [] term more = refl
onto_terms-last (first ∷ terms) term more = ap (onto_first first) (onto_terms-last terms term more)

pub onto_terms-empty : (terms : List Term) (more : List (List Term)) → onto_terms terms ([] ∷ more) ≡ terms ∷ more
onto_terms-empty [] more = refl
onto_terms-empty (term ∷ terms) more = ap (onto_first term) (onto_terms-empty terms more)

-- an alternative that ends is one more that was read
regrouped : (done : List (List Term)) (terms : List Term) (read : Result (List (List Term)) FaultCause)
    → joined done terms (read >>= λ more. Ok ([] ∷ more)) ≡ joined (done ++ terms ∷ []) [] read
regrouped done terms (Ok more) = ap (λ all. Ok (done ++ all)) (onto_terms-empty terms more) ∙ ap Ok (sym (append_assoc done (terms ∷ []) more))
regrouped done terms (Err cause) = refl

-- a term that was read goes to the end of its alternative
extended : (done : List (List Term)) (terms : List Term) (term : Term) (read : Result (List (List Term)) FaultCause)
    → joined done terms (read >>= λ more. Ok (onto_first term more)) ≡ joined done (terms ++ term ∷ []) read
extended done terms term (Ok more) = ap (λ all. Ok (done ++ all)) (sym (onto_terms-last terms term more))
extended done terms term (Err cause) = refl

ends_some : (terms : List Term) (term : Term) → (length (terms ++ term ∷ []) == 0) ≡ false
ends_some terms term = rw (length-append terms (term ∷ [])) (grind (arith, nat_tests))

-- the count of words may be any that is large enough
pub alternatives-enough : (n m : ℕ) (acls : List Acl) (begins : Bool) (words : List (List ℕ)) → length words ≤ n → length words ≤ m
    → alternatives n acls begins words ≡ alternatives m acls begins words
unfolding alternatives
alternatives-enough zero zero acls begins words n_is m_is = refl
alternatives-enough zero (suc m) acls begins [] n_is m_is = refl
alternatives-enough (suc n) zero acls begins [] n_is m_is = refl
alternatives-enough (suc n) (suc m) acls begins [] n_is m_is = refl
alternatives-enough zero (suc m) acls begins (word ∷ words) n_is m_is = absurd (omega arith)
alternatives-enough (suc n) zero acls begins (word ∷ words) n_is m_is = absurd (omega arith)
alternatives-enough (suc n) (suc m) acls begins (word ∷ words) n_is m_is =
    let separated : (n : ℕ) → Result (List (List Term)) FaultCause = λ n.
    cond begins (Err causes.Condition) (alternatives n acls true words >>= λ more. Ok ([] ∷ more)) in
    let next : (n : ℕ) → Term × List (List ℕ)
    → Result (List (List Term)) FaultCause = λ n term. alternatives n acls false term.1 >>= λ more. Ok (onto_first term.0 more) in
    let or_same : separated n ≡ separated m =
    ap (λ (r : Result (List (List Term)) FaultCause). cond begins (Err causes.Condition) (r >>= λ more. Ok ([] ∷ more)))
    (alternatives-enough n m acls true words (omega arith) (omega arith)) in
    let term_same : (term_at acls word words >>= next n) ≡ (term_at acls word words >>= next m) = same_next (term_at acls word words) (next n) (next m)
    (λ x is. let shorter = term_at-shorter acls word words x is in
    ap (λ (r : Result (List (List Term)) FaultCause). r >>= λ more. Ok (onto_first x.0 more))
    (alternatives-enough n m acls false x.1 (omega arith) (omega arith))) in
    ap (λ (r : Result (List (List Term)) FaultCause). cond (is_or word) r (term_at acls word words >>= next n)) or_same
    ∙ ap (λ (r : Result (List (List Term)) FaultCause). cond (is_or word) (separated m) r) term_same

-- what is read where these terms of an alternative were read already
abbrev pub continued : List Acl → List Term → List (List ℕ) → Result (List (List Term)) FaultCause
continued acls terms words = alternatives (length words) acls (length terms == 0) words

pub continued-or : (acls : List Acl) (done : List (List Term)) (terms : List Term) (word : List ℕ) (words : List (List ℕ)) → is_or word ≡ true
    → (length terms == 0) ≡ false → joined done terms (continued acls terms (word ∷ words)) ≡ joined (done ++ terms ∷ []) [] (continued acls [] words)
unfolding alternatives
continued-or acls done terms word words separates some = rw (separates, some) (regrouped done terms (alternatives (length words) acls true words))

pub continued-early_or : (acls : List Acl) (done : List (List Term)) (terms : List Term) (word : List ℕ) (words : List (List ℕ)) → is_or word ≡ true
    → (length terms == 0) ≡ true → joined done terms (continued acls terms (word ∷ words)) ≡ Err causes.Condition
unfolding alternatives
continued-early_or acls done terms word words separates none = rw (separates, none) refl

pub continued-term : (acls : List Acl) (done : List (List Term)) (terms : List Term) (word : List ℕ) (words : List (List ℕ)) (term : Term)
    (rest : List (List ℕ))
    → is_or word ≡ false → term_at acls word words ≡ Ok (term, rest)
    → joined done terms (continued acls terms (word ∷ words)) ≡ joined done (terms ++ term ∷ []) (continued acls (terms ++ term ∷ []) rest)
unfolding alternatives
continued-term acls done terms word words term rest other is =
    let shorter : length rest ≤ length words = term_at-shorter acls word words (term, rest) is in
    let some : (length (terms ++ term ∷ []) == 0) ≡ false = ends_some terms term in
    rw (other, is, some) (extended done terms term (alternatives (length words) acls false rest)
    ∙ ap (joined done (terms ++ term ∷ [])) (alternatives-enough (length words) (length rest) acls false rest shorter (omega arith)))

pub continued-fault : (acls : List Acl) (done : List (List Term)) (terms : List Term) (word : List ℕ) (words : List (List ℕ)) (cause : FaultCause)
    → is_or word ≡ false → term_at acls word words ≡ Err cause → joined done terms (continued acls terms (word ∷ words)) ≡ Err cause
unfolding alternatives
continued-fault acls done terms word words cause other is = rw (other, is) refl

pub continued-end : (acls : List Acl) (done : List (List Term)) (terms : List Term) → (length terms == 0) ≡ false
    → joined done terms (continued acls terms []) ≡ Ok (done ++ terms ∷ [])
unfolding alternatives
continued-end acls done terms some = rw some (ap (λ all. Ok (done ++ all)) (onto_terms-empty terms []))

pub continued-early_end : (acls : List Acl) (done : List (List Term)) (terms : List Term) → (length terms == 0) ≡ true
    → joined done terms (continued acls terms []) ≡ Err causes.Words
unfolding alternatives
continued-early_end acls done terms none = rw none refl

-- a fault of a term is the whole's
pub continued-fails : (e : LineError) (acls : List Acl) (done : List (List Term)) (terms : List Term) (word : List ℕ) (words : List (List ℕ))
    (all : Result (List (List Term)) FaultCause)
    → is_or word ≡ false → Fails e (term_at acls word words) → joined done terms (continued acls terms (word ∷ words)) ≡ all → Fails e all
continued-fails errors.NoMemory acls done terms word words all other fails so_far = tt
continued-fails (errors.Fault cause) acls done terms word words all other fails so_far = sym so_far
    ∙ continued-fault acls done terms word words cause other fails
