-- The standing after a list of results, by a walk over the list.
use Rattle.std.proofs.Common.{◌≡◌, ℕ, zero, suc, ◌<◌, Bool, true, false, not, ◌&&◌, List, []}
use Rattle.std.proofs.Common.{◌∷◌, ◌++◌, replicate, cond, ltb, refl, ap, sym, ◌∙◌, arith, append-nil}
use Rattle.std.proofs.lemmas.Bool.{ltb-true, ltb-false}
use Rattle.check_state.specs.Results.{has_run, is_down}
use Rattle.check_state.proofs.Runs.{fewer_run, enough_run, failure_in_run, fewer_down, success_down, answered_down, enough_down}

-- up or down, and how many results in a row speak against that
abbrev pub State : Type 0
State = Bool × ℕ

abbrev pub step : ℕ → ℕ → State → Bool → State
step rise fall (true, against) true = (true, 0)
step rise fall (true, against) false = cond (ltb (suc against) fall) (true, suc against) (false, 0)
step rise fall (false, against) false = (false, 0)
step rise fall (false, against) true = cond (ltb (suc against) rise) (false, suc against) (true, 0)

abbrev pub walk : ℕ → ℕ → State → List Bool → State
walk rise fall state [] = state
walk rise fall state (result ∷ later) = walk rise fall (step rise fall state result) later

-- one more of what stands in a row
row_more : (count : ℕ) (which : Bool) (later : List Bool) → replicate count which ++ which ∷ later ≡ replicate (suc count) which ++ later
row_more zero which later = refl
row_more (suc count) which later = ap (λ l. which ∷ l) (row_more count which later)

row_end : (count : ℕ) (which : Bool) → replicate count which ++ [] ≡ replicate count which
row_end count which = append-nil (replicate count which)

-- with a run of successes, or without one, a failure before the list changes nothing
failure_between : (rise fall : ℕ) (later : List Bool) → 0 < rise → (run : Bool) → has_run rise true later ≡ run
    → run && not (is_down rise fall later) ≡ run && not (is_down rise fall (false ∷ later))
failure_between rise fall later some true is = ap not (sym (answered_down rise fall 1 later some is))
failure_between rise fall later some false is = refl

module _ (rise fall : ℕ) (some_rise : 0 < rise) (some_fall : 0 < fall) where
  -- a walk ends up where the list says so
  pub record Walks (results : List Bool) : Type 0 where
    pub from_up : (against : ℕ) → against < fall → (walk rise fall (true, against) results).0 ≡ not (is_down rise fall (replicate against false ++ results))
    pub from_down : (against : ℕ) → against < rise
        → (walk rise fall (false, against) results).0 ≡ has_run rise true (replicate against true ++ results) && not (is_down rise fall results)

  failure_up : (later : List Bool) → Walks later → (against : ℕ) → (more : Bool) → ltb (suc against) fall ≡ more → against < fall
      → (walk rise fall (cond more (true, suc against) (false, 0)) later).0 ≡ not (is_down rise fall (replicate against false ++ false ∷ later))
  failure_up later walks against true test few =
      walks.from_up (suc against) (ltb-true (suc against) fall test) ∙ ap (λ l. not (is_down rise fall l)) (sym (row_more against false later))
  failure_up later walks against false test few =
      let all : suc against ≡ fall = let past = ltb-false (suc against) fall test in omega arith in
      walks.from_down 0 some_rise ∙ fallen (has_run rise true later) refl ∙ ap (λ n. not (is_down rise fall (replicate n false ++ later))) (sym all)
      ∙ ap (λ l. not (is_down rise fall l)) (sym (row_more against false later))
    where
      fallen : (run : Bool) → has_run rise true later ≡ run
          → has_run rise true later && not (is_down rise fall later) ≡ not (is_down rise fall (replicate fall false ++ later))
      fallen true is = ap (λ b. b && not (is_down rise fall later)) is ∙ ap not (sym (answered_down rise fall fall later some_rise is))
      fallen false is = ap (λ b. b && not (is_down rise fall later)) is ∙ ap not (sym (enough_down rise fall later some_rise some_fall is))

  success_down_walk : (later : List Bool) → Walks later → (against : ℕ) → (more : Bool) → ltb (suc against) rise ≡ more → against < rise
      → (walk rise fall (cond more (false, suc against) (true, 0)) later).0
      ≡ has_run rise true (replicate against true ++ true ∷ later) && not (is_down rise fall (true ∷ later))
  success_down_walk later walks against true test few =
      walks.from_down (suc against) (ltb-true (suc against) rise test)
      ∙ ap (λ l. has_run rise true l && not (is_down rise fall later)) (sym (row_more against true later))
      ∙ ap (λ b. has_run rise true (replicate against true ++ true ∷ later) && not b) (sym (success_down rise fall later some_fall))
  success_down_walk later walks against false test few =
      let all : suc against ≡ rise = let past = ltb-false (suc against) rise test in omega arith in
      let run : has_run rise true (replicate against true ++ true ∷ later) ≡ true = ap (has_run rise true) (row_more against true later)
      ∙ ap (λ n. has_run rise true (replicate n true ++ later)) all ∙ enough_run rise true later in
      walks.from_up 0 some_fall ∙ ap not (sym (success_down rise fall later some_fall)) ∙ ap (λ b. b && not (is_down rise fall (true ∷ later))) (sym run)

  pub walks : (results : List Bool) → Walks results
  walks [] = record {
    from_up = λ against few. ap not (sym (fewer_down rise fall against [] refl few));
    from_down = λ against few. ap (λ b. b && true)
        (sym (fewer_run rise against true [] refl few ∙ fewer_run rise 0 true [] refl some_rise ∙ none_in_nothing rise some_rise));
  }
    where
      none_in_nothing : (n : ℕ) → 0 < n → has_run n true [] ≡ false
      none_in_nothing zero some = absurd (omega arith)
      none_in_nothing (suc n) some = refl
  walks (true ∷ later) =
      let rest = walks later in
      record {
        from_up = λ against few. rest.from_up 0 some_fall
            ∙ ap not (sym (fewer_down rise fall against (true ∷ later) refl few ∙ success_down rise fall later some_fall));
        from_down = λ against few. success_down_walk later rest against (ltb (suc against) rise) refl few;
      }
  walks (false ∷ later) =
      let rest = walks later in
      record {
        from_up = λ against few. failure_up later rest against (ltb (suc against) fall) refl few;
        from_down = λ against few.
            rest.from_down 0 some_rise ∙ failure_between_at later
            ∙ ap (λ b. b && not (is_down rise fall (false ∷ later)))
            (sym (fewer_run rise against true (false ∷ later) refl few ∙ failure_in_run rise later some_rise));
      }
    where
      failure_between_at : (later : List Bool) → has_run rise true later && not (is_down rise fall later)
          ≡ has_run rise true later && not (is_down rise fall (false ∷ later))
      failure_between_at later = failure_between rise fall later some_rise (has_run rise true later) refl
