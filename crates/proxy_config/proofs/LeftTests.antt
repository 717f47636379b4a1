-- Tests and conditions are read from the left.
use Rattle.std.proofs.Common.{◌≡◌, ◌∙◌, ◌==◌, ℕ, zero, suc, Bool, true, false, cond, not, List, []}
use Rattle.std.proofs.Common.{◌∷◌, length, Some, None, Result, Ok, Err, refl, sym, ap, arith, codes}
use Rattle.std.specs.Option.{ok_or}
use Rattle.std.specs.List.{onto_first}
use Rattle.std.specs.Str.{bytes_eq}
use Rattle.proxy_config.specs.declared.faults.FaultCause.{FaultCause}
use Rattle.proxy_config.specs.declared.faults.FaultCause.TheVariants as causes
use Rattle.proxy_config.specs.declared.parts.Acl.{Acl}
use Rattle.proxy_config.specs.declared.parts.Subject.{Subject}
use Rattle.proxy_config.specs.declared.parts.Test.{Test}
use Rattle.proxy_config.specs.declared.parts.Term.{Term}
use Rattle.proxy_config.specs.declared.parts.Operand.TheVariants as operands
use Rattle.proxy_config.specs.Outcomes.{◌>>=◌, unless}
use Rattle.proxy_config.specs.Pieces.{word_at}
use Rattle.proxy_config.specs.Names.{is_acl_name}
use Rattle.proxy_config.specs.Samples.{head_at, subject_of, is_brace, value_of, values_to_brace, values_to_end, test_in_braces, test_to_end}
use Rattle.proxy_config.specs.Conditions.{acl_index, alternatives, condition, guard_at, is_or, operand_at, optional_guard, term_at}
use Rattle.proxy_config.proofs.Outcomes.{same_next}
use Rattle.proxy_config.proofs.Lengths.{term_at-shorter}
use Rattle.proxy_config.proofs.Alternatives.{alternatives-enough}
use Rattle.proxy_config.proofs.LeftReaders.{LeftReader, same, left_err, left_unless, left_or, left_if, left_value, left_word}
use Rattle.proxy_config.proofs.LeftReaders.{left_made, left_cons, left_none, fewer, assoc, cond_bind, from_err}

-- the values to the end of the line
no_fault : {A : Type 0} (x : A) (other : FaultCause) → (let read : Result A FaultCause = Ok x in read ≡ Err other) → other ≡ causes.Words
no_fault x other is = absurd (let none = is in cc)

words_fault : {A : Type 0} (other : FaultCause) → (let read : Result A FaultCause = Err causes.Words in read ≡ Err other) → other ≡ causes.Words
words_fault other is = sym (from_err causes.Words other is)

left_values : (n : ℕ) → LeftReader n values_to_end
left_values zero = left_none values_to_end (no_fault [])
left_values (suc n) = left_cons values_to_end (λ word others. value_of word >>= λ value. values_to_end others >>= λ more. Ok (value ∷ more))
    (λ word others. refl) (no_fault [])
    (λ word. left_value word (λ words value. values_to_end words >>= λ more. Ok (value ∷ more)) (left_made values_to_end (λ more. word ∷ more) (left_values n)))

-- the values up to the brace, and then what reads on
left_brace : {B : Type 0} (n : ℕ) (next : List (List ℕ) × List (List ℕ) → Result B FaultCause)
    → ((values : List (List ℕ)) → LeftReader n (λ words. next (values, words)))
    → LeftReader n (λ words. values_to_brace words >>= next)
left_brace zero next left = left_none (λ words. values_to_brace words >>= next) words_fault
left_brace (suc n) next left = left_cons (λ words. values_to_brace words >>= next)
    (λ word others. cond (is_brace word) (next ([], others)) (value_of word >>= λ value. values_to_brace others >>= λ more. next (value ∷ more.0, more.1)))
    (λ word others. cond_bind (is_brace word) _ _ next ∙ ap (cond (is_brace word) (next ([], others)))
    (assoc (value_of word) _ next ∙ same_next (value_of word) _ _ (λ value is. assoc (values_to_brace others) _ next)))
    words_fault
    (λ word. left_if (is_brace word) _ _ (fewer (left []))
    (left_value word (λ words value. values_to_brace words >>= λ more. next (value ∷ more.0, more.1))
    (left_brace n (λ more. next (word ∷ more.0, more.1)) (λ values. fewer (left (word ∷ values))))))

-- a test's beginning, and then what reads on
left_head : {B : Type 0} {n : ℕ} (next : Subject × Bool × List ℕ × List (List ℕ) → Result B FaultCause)
    → ((subject : Subject) (ignore_case : Bool) (value : List ℕ) → LeftReader n (λ words. next (subject, ignore_case, value, words)))
    → LeftReader n (λ words. head_at words >>= next)
unfolding head_at
left_head next left = same _
    (λ words. word_at words >>= λ first. ok_or (subject_of first.0) causes.Condition >>= λ subject. word_at first.1 >>= λ second.
    cond (bytes_eq second.0 (codes "-i")) (word_at second.1 >>= λ third. next (subject, true, third.0, third.1)) (next (subject, false, second.0, second.1)))
    (λ words. assoc (word_at words) _ next ∙ same_next (word_at words) _ _ (λ first first_is.
    assoc (ok_or (subject_of first.0) causes.Condition) _ next ∙ same_next (ok_or (subject_of first.0) causes.Condition) _ _ (λ subject subject_is.
    assoc (word_at first.1) _ next ∙ same_next (word_at first.1) _ _ (λ second second_is.
    cond_bind (bytes_eq second.0 (codes "-i")) _ _ next
    ∙ ap (λ r. cond (bytes_eq second.0 (codes "-i")) r (next (subject, false, second.0, second.1))) (assoc (word_at second.1) _ next)))))
    (left_word _ (λ first. left_or (subject_of first) causes.Condition _ (λ subject. left_word _ (λ second. left_if (bytes_eq second (codes "-i")) _ _
    (left_word _ (λ third. left subject true third)) (left subject false second)))))

pub left_test : (n : ℕ) → LeftReader n test_to_end
unfolding test_to_end
left_test n = left_head _ (λ subject ignore_case value.
    left_value value _ (left_made values_to_end (λ more. record { subject = subject; ignore_case = ignore_case; values = value ∷ more }) (left_values n)))

-- a test in braces, and then what reads on
left_braces : {B : Type 0} {n : ℕ} (next : Test × List (List ℕ) → Result B FaultCause) → ((test : Test) → LeftReader n (λ words. next (test, words)))
    → LeftReader n (λ words. test_in_braces words >>= next)
unfolding test_in_braces
left_braces {B} {n} next left = same _
    (λ words. head_at words >>= λ head. unless (is_brace head.2) causes.Condition >>= λ brace. value_of head.2 >>= λ first. values_to_brace head.3 >>= λ more.
    next (record { subject = head.0; ignore_case = head.1; values = first ∷ more.0 }, more.1))
    (λ words. assoc (head_at words) _ next ∙ same_next (head_at words) _ _ (λ head head_is.
    assoc (unless (is_brace head.2) causes.Condition) _ next ∙ same_next (unless (is_brace head.2) causes.Condition) _ _ (λ brace brace_is.
    assoc (value_of head.2) _ next ∙ same_next (value_of head.2) _ _ (λ first first_is. assoc (values_to_brace head.3) _ next))))
    (left_head _ (λ subject ignore_case value. left_unless (is_brace value) causes.Condition _ (left_value value _
    (left_brace n _ (λ values. left (record { subject = subject; ignore_case = ignore_case; values = value ∷ values }))))))

-- a term's operand, and then what reads on
left_operand : {B : Type 0} {n : ℕ} (acls : List Acl) (negated : Bool) (word : List ℕ) (next : Term × List (List ℕ) → Result B FaultCause)
    → ((term : Term) → LeftReader n (λ words. next (term, words)))
    → LeftReader n (λ words. operand_at acls negated word words >>= next)
unfolding operand_at
left_operand acls negated word next left = same _
    (λ words. cond (bytes_eq word (codes "{")) (test_in_braces words >>= λ test. next (record { negated = negated; operand = operands.Test test.0 }, test.1))
    (unless (not (is_acl_name word)) causes.Condition >>= λ named. ok_or (acl_index word acls) causes.Unknown >>= λ index.
    next (record { negated = negated; operand = operands.Acl index }, words)))
    (λ words. cond_bind (bytes_eq word (codes "{")) _ _ next
    ∙ ap (λ r. cond (bytes_eq word (codes "{")) r
    (((unless (not (is_acl_name word)) causes.Condition) >>= λ named. ok_or (acl_index word acls) causes.Unknown >>= λ index.
    Ok (record { negated = negated; operand = operands.Acl index }, words)) >>= next)) (assoc (test_in_braces words) _ next)
    ∙ ap (cond (bytes_eq word (codes "{")) (test_in_braces words >>= λ test. next (record { negated = negated; operand = operands.Test test.0 }, test.1)))
    (assoc (unless (not (is_acl_name word)) causes.Condition) _ next
    ∙ same_next (unless (not (is_acl_name word)) causes.Condition) _ _ (λ named named_is. assoc (ok_or (acl_index word acls) causes.Unknown) _ next)))
    (left_if (bytes_eq word (codes "{")) _ _ (left_braces _ (λ test. left (record { negated = negated; operand = operands.Test test })))
    (left_unless (not (is_acl_name word)) causes.Condition _
    (left_or (acl_index word acls) causes.Unknown _ (λ index. left (record { negated = negated; operand = operands.Acl index })))))

-- a term, and then what reads on
left_term : {B : Type 0} {n : ℕ} (acls : List Acl) (word : List ℕ) (next : Term × List (List ℕ) → Result B FaultCause)
    → ((term : Term) → LeftReader n (λ words. next (term, words)))
    → LeftReader n (λ words. term_at acls word words >>= next)
unfolding term_at
left_term acls [] next left = left_operand acls false [] next left
left_term acls (byte ∷ []) next left = same _
    (λ words. cond (byte == 33) (word_at words >>= λ second. operand_at acls true second.0 second.1 >>= next)
    (operand_at acls false (byte ∷ []) words >>= next))
    (λ words. cond_bind (byte == 33) _ _ next ∙ ap (λ r. cond (byte == 33) r (operand_at acls false (byte ∷ []) words >>= next)) (assoc (word_at words) _ next))
    (left_if (byte == 33) _ _ (left_word _ (λ second. left_operand acls true second next left)) (left_operand acls false (byte ∷ []) next left))
left_term acls (byte ∷ second ∷ rest) next left = same _
    (λ words. cond (byte == 33) (operand_at acls true (second ∷ rest) words >>= next) (operand_at acls false (byte ∷ second ∷ rest) words >>= next))
    (λ words. cond_bind (byte == 33) _ _ next)
    (left_if (byte == 33) _ _ (left_operand acls true (second ∷ rest) next left) (left_operand acls false (byte ∷ second ∷ rest) next left))

-- the alternatives to the end of the line, without a count
whole_rows : List Acl → Bool → List (List ℕ) → Result (List (List Term)) FaultCause
whole_rows acls begins words = alternatives (length words) acls begins words

row_behind : List Acl → Bool → List ℕ → List (List ℕ) → Result (List (List Term)) FaultCause
row_behind acls begins word words = cond (is_or word) (cond begins (Err causes.Condition) (whole_rows acls true words >>= λ more. Ok ([] ∷ more)))
    (term_at acls word words >>= λ term. whole_rows acls false term.1 >>= λ more. Ok (onto_first term.0 more))

row_step : (acls : List Acl) (begins : Bool) (word : List ℕ) (words : List (List ℕ)) → whole_rows acls begins (word ∷ words) ≡ row_behind acls begins word words
unfolding whole_rows row_behind alternatives
row_step acls begins word words = ap (cond (is_or word)
    (cond begins (Err causes.Condition) (alternatives (length words) acls true words >>= λ more. Ok ([] ∷ more))))
    (same_next (term_at acls word words) _ _ (λ term is. let shorter = term_at-shorter acls word words term is in
    ap (λ (r : Result (List (List Term)) FaultCause). r >>= λ more. Ok (onto_first term.0 more))
    (alternatives-enough (length words) (length term.1) acls false term.1 shorter (omega arith))))

rows_none : (acls : List Acl) (begins : Bool) (other : FaultCause) → whole_rows acls begins [] ≡ Err other → other ≡ causes.Words
unfolding whole_rows alternatives
rows_none acls true other is = words_fault other is
rows_none acls false other is = no_fault ([] ∷ []) other is

left_rows : (n : ℕ) (acls : List Acl) (begins : Bool) → LeftReader n (whole_rows acls begins)
unfolding row_behind
left_rows zero acls begins = left_none (whole_rows acls begins) (rows_none acls begins)
left_rows (suc n) acls begins = left_cons (whole_rows acls begins) (row_behind acls begins) (row_step acls begins) (rows_none acls begins)
    (λ word. left_if (is_or word) _ _ (left_if begins _ _ (left_err causes.Condition)
    (left_made (whole_rows acls true) (λ more. [] ∷ more) (left_rows n acls true)))
    (left_term acls word _ (λ term. left_made (whole_rows acls false) (onto_first term) (left_rows n acls false))))

left_condition : (n : ℕ) (acls : List Acl) → LeftReader n (condition acls)
unfolding whole_rows
left_condition n acls = left_made (whole_rows acls true) (λ all. record { alternatives = all }) (left_rows n acls true)

pub left_guard : (n : ℕ) (acls : List Acl) (word : List ℕ) → LeftReader n (guard_at acls word)
unfolding guard_at
left_guard n acls word = left_if (bytes_eq word (codes "if")) _ _ (left_made (condition acls) _ (left_condition n acls))
    (left_if (bytes_eq word (codes "unless")) _ _ (left_made (condition acls) _ (left_condition n acls)) (left_err causes.Condition))

pub left_optional : (n : ℕ) (acls : List Acl) → LeftReader n (optional_guard acls)
unfolding optional_guard
left_optional zero acls = left_none (optional_guard acls) (no_fault None)
left_optional (suc n) acls = left_cons (optional_guard acls) (λ word others. guard_at acls word others >>= λ guard. Ok (Some guard)) (λ word others. refl)
    (no_fault None)
    (λ word. left_made (guard_at acls word) Some (left_guard n acls word))
