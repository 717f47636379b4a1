-- Conditions as words.
use Rattle.std.specs.Prelude.{ℕ, zero, suc, Bool, true, false, ◌||◌, ◌==◌, if◌then◌else◌, not, List}
use Rattle.std.specs.Prelude.{[], ◌∷◌, length, position, Option, Some, None, Result, Ok, Err, codes}
use Rattle.std.specs.Option.{ok_or}
use Rattle.std.specs.List.{onto_first}
use Rattle.std.specs.Str.{bytes_eq}
use Rattle.proxy_config.specs.declared.faults.FaultCause.{FaultCause}
use Rattle.proxy_config.specs.declared.faults.FaultCause.TheVariants as causes
use Rattle.proxy_config.specs.declared.parts.Acl.{Acl}
use Rattle.proxy_config.specs.declared.parts.Term.{Term}
use Rattle.proxy_config.specs.declared.parts.Operand.TheVariants as operands
use Rattle.proxy_config.specs.declared.parts.Condition.{Condition}
use Rattle.proxy_config.specs.declared.parts.Guard.{Guard}
use Rattle.proxy_config.specs.declared.parts.Guard.TheVariants as guards
use Rattle.proxy_config.specs.Outcomes.{◌>>=◌, unless}
use Rattle.proxy_config.specs.Names.{is_acl_name}
use Rattle.proxy_config.specs.Pieces.{word_at}
use Rattle.proxy_config.specs.Samples.{test_in_braces}

abbrev pub is_or : List ℕ → Bool
is_or word = bytes_eq word (codes "or") || bytes_eq word (codes "||")

-- the index of the ACL with this name
abbrev pub acl_index : List ℕ → List Acl → Option ℕ
acl_index name acls = position (λ acl. bytes_eq acl.name name) acls

-- a term whose operand begins with this word, and the words after it
unfoldable pub operand_at : List Acl → Bool → List ℕ → List (List ℕ) → Result (Term × List (List ℕ)) FaultCause
operand_at acls negated word words =
    if bytes_eq word (codes "{") then (do
      test ← test_in_braces words
      Ok (record { negated = negated; operand = operands.Test test.0 }, test.1))
    else do
      named ← unless (not (is_acl_name word)) causes.Condition
      index ← ok_or (acl_index word acls) causes.Unknown
      Ok (record { negated = negated; operand = operands.Acl index }, words)

-- the same with a `!` before it, joined to it or as a word of its own, or with none
unfoldable pub term_at : List Acl → List ℕ → List (List ℕ) → Result (Term × List (List ℕ)) FaultCause
term_at acls [] words = operand_at acls false [] words
term_at acls (byte ∷ []) words = if byte == 33 then (word_at words >>= λ next. operand_at acls true next.0 next.1)
    else operand_at acls false (byte ∷ []) words
term_at acls (byte ∷ second ∷ rest) words = if byte == 33 then operand_at acls true (second ∷ rest) words
    else operand_at acls false (byte ∷ second ∷ rest) words

-- Alternatives of one or more terms, to the end of the line. An alternative that begins has no term
-- yet. The number is that of the words, so it is never too small.
unfoldable pub alternatives : ℕ → List Acl → Bool → List (List ℕ) → Result (List (List Term)) FaultCause
alternatives n acls begins [] = if begins then Err causes.Words else Ok ([] ∷ [])
alternatives zero acls begins (word ∷ words) = Err causes.Words
alternatives (suc n) acls begins (word ∷ words) =
    if is_or word then (if begins then Err causes.Condition else (alternatives n acls true words >>= λ more. Ok ([] ∷ more)))
    else term_at acls word words >>= λ term. alternatives n acls false term.1 >>= λ more. Ok (onto_first term.0 more)

abbrev pub condition : List Acl → List (List ℕ) → Result Condition FaultCause
condition acls words = alternatives (length words) acls true words >>= λ all. Ok (record { alternatives = all })

-- `if` or `unless`, and a condition
unfoldable pub guard_at : List Acl → List ℕ → List (List ℕ) → Result Guard FaultCause
guard_at acls word words =
    if bytes_eq word (codes "if") then (condition acls words >>= λ c. Ok (guards.If c))
    else if bytes_eq word (codes "unless") then (condition acls words >>= λ c. Ok (guards.Unless c))
    else Err causes.Condition

-- the same, or the end of the line
unfoldable pub optional_guard : List Acl → List (List ℕ) → Result (Option Guard) FaultCause
optional_guard acls [] = Ok None
optional_guard acls (word ∷ words) = guard_at acls word words >>= λ guard. Ok (Some guard)
