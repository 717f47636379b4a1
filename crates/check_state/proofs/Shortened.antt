-- A shortened list of results: the walk over it ends where the walk over the whole list does.
use Rattle.std.proofs.Common.{◌≡◌, ℕ, zero, suc, ◌+◌, ◌<◌, Bool, true, false, not, List, [], ◌∷◌, ◌++◌, replicate, cond, ltb, refl, ap, sym, ◌∙◌, subst, arith}
use Rattle.std.proofs.lemmas.Bool.{ltb-true, lt-ltb, le-ltb}
use Rattle.check_state.specs.Results.{is_up_after, run_at_end}
use Rattle.check_state.specs.Shortened.{shortened}
use Rattle.check_state.specs.Standing.{Standing, IsHealthOf}
use Rattle.check_state.proofs.Walk.{State, step, walk}
use Rattle.check_state.proofs.Steps.{walk_stands, walk_counts}

from_none : (n : ℕ) → 0 + n ≡ n
from_none n = omega arith

module _ (rise fall : ℕ) where
  -- fewer results speak against a standing than turn it over
  abbrev IsWithin : State → Type 0
  IsWithin (true, against) = against < fall
  IsWithin (false, against) = against < rise

  walk_on : (state : State) (results later : List Bool) → walk rise fall state (results ++ later) ≡ walk rise fall (walk rise fall state results) later
  walk_on state [] later = refl
  walk_on state (result ∷ results) later = walk_on (step rise fall state result) results later

  -- failures while it is up, and successes while it is down
  failures_from : (count against : ℕ) → against + count < fall → walk rise fall (true, against) (replicate count false) ≡ (true, against + count)
  failures_from zero against few = ap (λ n. (true, n)) (omega arith)
  failures_from (suc count) against few =
      ap (λ b. walk rise fall (cond b (true, suc against) (false, 0)) (replicate count false)) (lt-ltb (suc against) fall (omega arith))
      ∙ failures_from count (suc against) (omega arith) ∙ ap (λ n. (true, n)) (omega arith)

  successes_from : (count against : ℕ) → against + count < rise → walk rise fall (false, against) (replicate count true) ≡ (false, against + count)
  successes_from zero against few = ap (λ n. (false, n)) (omega arith)
  successes_from (suc count) against few =
      ap (λ b. walk rise fall (cond b (false, suc against) (true, 0)) (replicate count true)) (lt-ltb (suc against) rise (omega arith))
      ∙ successes_from count (suc against) (omega arith) ∙ ap (λ n. (false, n)) (omega arith)

  -- as many failures as take it down
  fall_from : (count against : ℕ) → against + suc count ≡ fall → walk rise fall (true, against) (replicate (suc count) false) ≡ (false, 0)
  fall_from zero against all = ap (λ b. cond {A = State} b (true, suc against) (false, 0)) (le-ltb (suc against) fall (omega arith))
  fall_from (suc count) against all =
      ap (λ b. walk rise fall (cond b (true, suc against) (false, 0)) (replicate (suc count) false)) (lt-ltb (suc against) fall (omega arith))
      ∙ fall_from count (suc against) (omega arith)

  falls : (count : ℕ) → count ≡ fall → 0 < fall → walk rise fall (true, 0) (replicate count false) ≡ (false, 0)
  falls zero all some = absurd (omega arith)
  falls (suc count) all some = fall_from count 0 (omega arith)

  module _ (some_rise : 0 < rise) (some_fall : 0 < fall) where
    within_step : (state : State) (result : Bool) → IsWithin state → IsWithin (step rise fall state result)
    within_step (true, against) true few = some_fall
    within_step (false, against) false few = some_rise
    within_step (true, against) false few = at (ltb (suc against) fall) refl
      where
        at : (b : Bool) → ltb (suc against) fall ≡ b → IsWithin (cond b (true, suc against) (false, 0))
        at true e = ltb-true (suc against) fall e
        at false e = some_rise
    within_step (false, against) true few = at (ltb (suc against) rise) refl
      where
        at : (b : Bool) → ltb (suc against) rise ≡ b → IsWithin (cond b (false, suc against) (true, 0))
        at true e = ltb-true (suc against) rise e
        at false e = some_fall

    within_walk : (results : List Bool) (state : State) → IsWithin state → IsWithin (walk rise fall state results)
    within_walk [] state few = few
    within_walk (result ∷ results) state few = within_walk results (step rise fall state result) (within_step state result few)

    -- both walks end at the same standing
    same_walk : (results : List Bool) → walk rise fall (true, 0) (shortened rise fall results) ≡ walk rise fall (true, 0) results
    same_walk results =
        at (walk rise fall (true, 0) results) refl (within_walk results (true, 0) some_fall) (is_up_after rise fall results) refl
      where
        at : (state : State) → walk rise fall (true, 0) results ≡ state → IsWithin state → (up : Bool) → is_up_after rise fall results ≡ up
            → walk rise fall (true, 0) (cond up (replicate (run_at_end false results) false) (replicate fall false ++ replicate (run_at_end true results) true))
            ≡ walk rise fall (true, 0) results
        at (true, against) ends few true up =
            let counted : against ≡ run_at_end false results =
            subst (λ (s : State). s.1 ≡ run_at_end (not s.0) results) ends (walk_counts rise fall some_rise some_fall results) in
            ap (λ n. walk rise fall (true, 0) (replicate n false)) (sym counted) ∙ failures_from against 0 (omega arith)
            ∙ ap (λ n. (true, n)) (from_none against) ∙ sym ends
        at (false, against) ends few false up =
            let counted : against ≡ run_at_end true results =
            subst (λ (s : State). s.1 ≡ run_at_end (not s.0) results) ends (walk_counts rise fall some_rise some_fall results) in
            walk_on (true, 0) (replicate fall false) (replicate (run_at_end true results) true)
            ∙ ap (λ (s : State). walk rise fall s (replicate (run_at_end true results) true)) (falls fall refl some_fall)
            ∙ ap (λ n. walk rise fall (false, 0) (replicate n true)) (sym counted) ∙ successes_from against 0 (omega arith)
            ∙ ap (λ n. (false, n)) (from_none against) ∙ sym ends
        at (true, against) ends few false up = let it : true ≡ false = sym (ap (λ (s : State). s.0) ends) ∙ walk_stands rise fall some_rise some_fall results
            ∙ up in cc
        at (false, against) ends few true up = let it : false ≡ true = sym (ap (λ (s : State). s.0) ends) ∙ walk_stands rise fall some_rise some_fall results
            ∙ up in cc

    -- whatever follows, the server is up after the one list where it is after the other
    pub same_later : (results later : List Bool) → is_up_after rise fall (shortened rise fall results ++ later) ≡ is_up_after rise fall (results ++ later)
    same_later results later =
        sym (walk_stands rise fall some_rise some_fall (shortened rise fall results ++ later))
        ∙ ap (λ (s : State). s.0) (walk_on (true, 0) (shortened rise fall results) later ∙ ap (λ (s : State). walk rise fall s later) (same_walk results)
        ∙ sym (walk_on (true, 0) results later))
        ∙ walk_stands rise fall some_rise some_fall (results ++ later)

    pub same_up : (results : List Bool) → is_up_after rise fall (shortened rise fall results) ≡ is_up_after rise fall results
    same_up results =
        sym (walk_stands rise fall some_rise some_fall (shortened rise fall results)) ∙ ap (λ (s : State). s.0) (same_walk results)
        ∙ walk_stands rise fall some_rise some_fall results

    -- a health of the one list is of the other
    pub same_health : (results : List Bool) (health : Standing) → IsHealthOf rise fall results health
        → IsHealthOf rise fall (shortened rise fall results) health
    same_health results health is = record {
      own_rise = is.own_rise;
      own_fall = is.own_fall;
      stands = is.stands ∙ sym (same_up results);
      counted =
          let up : (walk rise fall (true, 0) results).0 ≡ health.up = walk_stands rise fall some_rise some_fall results ∙ sym is.stands in
          is.counted ∙ ap (λ b. run_at_end (not b) results) (sym up) ∙ sym (walk_counts rise fall some_rise some_fall results)
          ∙ ap (λ (s : State). s.1) (sym (same_walk results)) ∙ walk_counts rise fall some_rise some_fall (shortened rise fall results)
          ∙ ap (λ (s : State). run_at_end (not s.0) (shortened rise fall results)) (same_walk results)
          ∙ ap (λ b. run_at_end (not b) (shortened rise fall results)) up;
    }
