-- The tests on lists of results, by the parts of the list.
use Rattle.std.proofs.Common.{◌≡◌, ℕ, zero, suc, ◌<◌, Bool, true, false, List, [], ◌∷◌, ◌++◌, replicate, refl, ap, ◌∙◌, inl, inr, arith}
use Rattle.std.specs.Bool.{beq}
use Rattle.std.proofs.lemmas.Bool.{and_parts, or_cases, or_right, not-true, false_from_ne_true}
use Rattle.check_state.specs.Results.{begins_with, has_run, is_down}
use Rattle.check_state.specs.Runs.{StandInARow, HasFallen}
use Rattle.check_state.proofs.Runs.{enough_run, failure_in_run, failures_in_run, enough_down}

beq_is : (a b : Bool) → beq a b ≡ true → a ≡ b
beq_is true true is = refl
beq_is false false is = refl
beq_is true false is = cc
beq_is false true is = cc

-- what begins with a run is the run and a rest
begin_parts : (count : ℕ) (which : Bool) (results : List Bool) → begins_with count which results ≡ true
    → (rest : List Bool) × (results ≡ replicate count which ++ rest)
begin_parts zero which results begins = (results, refl)
begin_parts (suc count) which [] begins = cc
begin_parts (suc count) which (result ∷ later) begins =
    let both = and_parts _ _ begins in
    let rest = begin_parts count which later both.1 in
    (rest.0, ap (λ l. result ∷ l) rest.1 ∙ ap (λ b. b ∷ replicate count which ++ rest.0) (beq_is result which both.0))

first_is : (count : ℕ) (which result : Bool) (later : List Bool) → 0 < count → begins_with count which (result ∷ later) ≡ true → result ≡ which
first_is zero which result later some begins = absurd (omega arith)
first_is (suc count) which result later some begins = beq_is result which (and_parts _ _ begins).0

pub run_parts : (count : ℕ) (which : Bool) (results : List Bool) → has_run count which results ≡ true → StandInARow count which results
run_parts count which [] run = let rest = begin_parts count which [] run in ([], rest.0, rest.1)
run_parts count which (result ∷ later) run = elim (or_cases _ _ run) [
  | inl here ↦ let rest = begin_parts count which (result ∷ later) here in ([], rest.0, rest.1)
  | inr after ↦ let parts = run_parts count which later after in (result ∷ parts.0, parts.1, ap (λ l. result ∷ l) parts.2)
]

run_after : (count : ℕ) (which : Bool) (before rest : List Bool) → has_run count which rest ≡ true → has_run count which (before ++ rest) ≡ true
run_after count which [] rest run = run
run_after count which (result ∷ before) rest run = or_right _ _ (run_after count which before rest run)

pub run_from_parts : (count : ℕ) (which : Bool) (results : List Bool) → StandInARow count which results → has_run count which results ≡ true
run_from_parts count which results parts = ap (has_run count which) parts.2
    ∙ run_after count which parts.0 (replicate count which ++ parts.1) (enough_run count which parts.1)

module _ (rise fall : ℕ) (some_rise : 0 < rise) (some_fall : 0 < fall) where
  -- after a run of failures at the front no run of successes
  none_after : (result : Bool) (later rest : List Bool) → result ≡ false → result ∷ later ≡ replicate fall false ++ rest → has_run rise true later ≡ false
      → ¬ (StandInARow rise true rest)
  none_after result later rest failure parts none run =
      let in_all : has_run rise true (result ∷ later) ≡ true = ap (has_run rise true) parts ∙ failures_in_run rise fall rest some_rise
      ∙ run_from_parts rise true rest run in
      let in_later : has_run rise true (result ∷ later) ≡ has_run rise true later = ap (λ b. has_run rise true (b ∷ later)) failure
      ∙ failure_in_run rise later some_rise in
      cc

  pub down_parts : (results : List Bool) → is_down rise fall results ≡ true → HasFallen rise fall results
  down_parts [] down = cc
  down_parts (result ∷ later) down = elim (or_cases _ _ down) [
    | inl here ↦
        let both = and_parts _ _ here in
        let rest = begin_parts fall false (result ∷ later) both.0 in
        ([], rest.0, rest.1, none_after result later rest.0 (first_is fall false result later some_fall both.0) rest.1 (not-true _ both.1))
    | inr after ↦ let parts = down_parts later after in (result ∷ parts.0, parts.1, ap (λ l. result ∷ l) parts.2, parts.3)
  ]

  down_after : (before rest : List Bool) → is_down rise fall rest ≡ true → is_down rise fall (before ++ rest) ≡ true
  down_after [] rest down = down
  down_after (result ∷ before) rest down = or_right _ _ (down_after before rest down)

  pub down_from_parts : (results : List Bool) → HasFallen rise fall results → is_down rise fall results ≡ true
  down_from_parts results parts =
      ap (is_down rise fall) parts.2 ∙ down_after parts.0 (replicate fall false ++ parts.1)
      (enough_down rise fall parts.1 some_rise some_fall (false_from_ne_true _ (λ run. parts.3 (run_parts rise true parts.1 run))))
