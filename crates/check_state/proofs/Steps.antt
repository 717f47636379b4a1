-- What a result makes of a health.
use Rattle.std.proofs.Common.{◌≡◌, ℕ, suc, ◌+◌, ◌<◌, ◌≤◌, Bool, true, false, not, List, [], ◌∷◌}
use Rattle.std.proofs.Common.{◌++◌, cond, ltb, reverse, refl, ap, sym, ◌∙◌, subst, arith, add-one, append-nil}
use Rattle.std.specs.Bool.{beq}
use Rattle.std.proofs.lemmas.Bool.{lt-ltb, le-ltb}
use Rattle.std.proofs.lemmas.List.{reverse-append, append_assoc}
use Rattle.std.specs.List.{prefix_len}
use Rattle.std.specs.Prelude.{if◌then◌else◌}
use Rattle.check_state.specs.declared.health.Change.{Change}
use Rattle.check_state.specs.declared.health.Change.TheVariants.{Stay, WentDown, WentUp}
use Rattle.check_state.specs.Results.{is_up_after, run_at_end}
use Rattle.check_state.specs.Standing.{Standing, IsHealthOf, IsStanding, results_to_turn, change_between}
use Rattle.check_state.proofs.Walk.{State, step, walk, walks}

-- the run at the end, with one result more
end_same : (which : Bool) (results : List Bool) → run_at_end which (results ++ which ∷ []) ≡ suc (run_at_end which results)
end_same which results =
    ap (prefix_len (λ result. beq result which)) (reverse-append results (which ∷ [])) ∙ at which (reverse results)
  where
    at : (which : Bool) (newest : List Bool) → prefix_len (λ result. beq result which) (which ∷ newest) ≡ suc (prefix_len (λ result. beq result which) newest)
    at true newest = omega arith
    at false newest = omega arith

end_other : (which : Bool) (results : List Bool) → run_at_end (not which) (results ++ which ∷ []) ≡ 0
end_other which results =
    ap (prefix_len (λ result. beq result (not which))) (reverse-append results (which ∷ [])) ∙ at which (reverse results)
  where
    at : (which : Bool) (newest : List Bool) → prefix_len (λ result. beq result (not which)) (which ∷ newest) ≡ 0
    at true newest = refl
    at false newest = refl

-- a state counts what speaks against it
abbrev pub Counts : List Bool → State → Type 0
Counts results state = state.1 ≡ run_at_end (not state.0) results

module _ (rise fall : ℕ) where
  counts_step : (results : List Bool) (state : State) → Counts results state → (result : Bool) → Counts (results ++ result ∷ []) (step rise fall state result)
  counts_step results (true, against) counts true = sym (end_other true results)
  counts_step results (false, against) counts false = sym (end_other false results)
  counts_step results (true, against) counts false = at (ltb (suc against) fall)
    where
      at : (more : Bool) → Counts (results ++ false ∷ []) (cond more (true, suc against) (false, 0))
      at true = ap suc counts ∙ sym (end_same false results)
      at false = sym (end_other false results)
  counts_step results (false, against) counts true = at (ltb (suc against) rise)
    where
      at : (more : Bool) → Counts (results ++ true ∷ []) (cond more (false, suc against) (true, 0))
      at true = ap suc counts ∙ sym (end_same true results)
      at false = sym (end_other true results)

  counts_on : (before results : List Bool) (state : State) → Counts before state → Counts (before ++ results) (walk rise fall state results)
  counts_on before [] state counts = subst (λ l. Counts l state) (sym (append-nil before)) counts
  counts_on before (result ∷ later) state counts =
      subst (λ l. Counts l (walk rise fall (step rise fall state result) later)) (append_assoc before (result ∷ []) later)
      (counts_on (before ++ result ∷ []) later (step rise fall state result) (counts_step before state counts result))

  walk_more : (results : List Bool) (state : State) (result : Bool)
      → walk rise fall state (results ++ result ∷ []) ≡ step rise fall (walk rise fall state results) result
  walk_more [] state result = refl
  walk_more (first ∷ later) state result = walk_more later (step rise fall state first) result

  module _ (some_rise : 0 < rise) (some_fall : 0 < fall) where
    -- the walk over all results is at the standing
    pub walk_stands : (results : List Bool) → (walk rise fall (true, 0) results).0 ≡ is_up_after rise fall results
    walk_stands results = (walks rise fall some_rise some_fall results).from_up 0 some_fall

    pub walk_counts : (results : List Bool) → Counts results (walk rise fall (true, 0) results)
    walk_counts results = counts_on [] results (true, 0) refl

    walked : (results : List Bool) (health : Standing) → IsHealthOf rise fall results health → walk rise fall (true, 0) results ≡ (health.up, health.against)
    walked results health is =
        let up : (walk rise fall (true, 0) results).0 ≡ health.up = walk_stands results ∙ sym is.stands in
        let against : (walk rise fall (true, 0) results).1 ≡ health.against = walk_counts results ∙ ap (λ b. run_at_end (not b) results) up ∙ sym is.counted in
        ap (λ b. (b, (walk rise fall (true, 0) results).1)) up ∙ ap (λ n. (health.up, n)) against

    -- the state after a further result
    pub stepped : (results : List Bool) (health : Standing) (result : Bool) (up : Bool) (against : ℕ) → IsHealthOf rise fall results health
        → step rise fall (health.up, health.against) result ≡ (up, against)
        → IsHealthOf rise fall (results ++ result ∷ []) (record { rise = health.rise; fall = health.fall; up = up; against = against })
    stepped results health result up against is leads =
        let more : walk rise fall (true, 0) (results ++ result ∷ []) ≡ (up, against) = walk_more results (true, 0) result
        ∙ ap (λ (s : State). step rise fall s result) (walked results health is) ∙ leads in
        record {
          own_rise = is.own_rise;
          own_fall = is.own_fall;
          stands = ap (λ (s : State). s.0) (sym more) ∙ walk_stands (results ++ result ∷ []);
          counted = subst (λ (s : State). Counts (results ++ result ∷ []) s) more (walk_counts (results ++ result ∷ []));
        }

-- the three ways of a result
module _ (rise fall : ℕ) where
  step_same : (up : Bool) (against : ℕ) (result : Bool) → beq result up ≡ true → step rise fall (up, against) result ≡ (up, 0)
  step_same true against true same = refl
  step_same false against false same = refl
  step_same true against false same = cc
  step_same false against true same = cc

  step_more : (up : Bool) (against : ℕ) (result : Bool) → beq result up ≡ false → against + 1 < (if up then fall else rise)
      → step rise fall (up, against) result ≡ (up, against + 1)
  step_more true against true other few = cc
  step_more false against false other few = cc
  step_more true against false other few = rw add-one (ap (λ b. cond b (true, suc against) (false, 0)) (lt-ltb (suc against) fall (omega arith)))
  step_more false against true other few = rw add-one (ap (λ b. cond b (false, suc against) (true, 0)) (lt-ltb (suc against) rise (omega arith)))

  step_turn : (up : Bool) (against : ℕ) (result : Bool) → beq result up ≡ false → (if up then fall else rise) ≤ against + 1
      → step rise fall (up, against) result ≡ (result, 0)
  step_turn true against true other all = cc
  step_turn false against false other all = cc
  step_turn true against false other all = ap (λ b. cond b (true, suc against) (false, 0)) (le-ltb (suc against) fall (omega arith))
  step_turn false against true other all = ap (λ b. cond b (false, suc against) (true, 0)) (le-ltb (suc against) rise (omega arith))

change_stays : (up : Bool) → Stay ≡ change_between up up
change_stays true = refl
change_stays false = refl

change_turns : (up result : Bool) → beq result up ≡ false → (if result then WentUp else WentDown) ≡ change_between up result
change_turns true true other = cc
change_turns false false other = cc
change_turns true false other = refl
change_turns false true other = refl

-- a result at a health: what it is the health of then, and what it tells
abbrev with_state : Standing → Bool → ℕ → Standing
with_state health up against = record { rise = health.rise; fall = health.fall; up = up; against = against }

pub record IsResult (rise fall : ℕ) (results : List Bool) (result : Bool) (next : Standing) (change : Change) : Type 0 where
  pub health : IsHealthOf rise fall (results ++ result ∷ []) next
  pub change_is : change ≡ change_between (is_up_after rise fall results) (is_up_after rise fall (results ++ result ∷ []))

module _ (rise fall : ℕ) (results : List Bool) (health : Standing) (result : Bool) (is : IsHealthOf rise fall results health)
    (standing : IsStanding health) where
  leads_to : (up : Bool) (against : ℕ) → step health.rise health.fall (health.up, health.against) result ≡ (up, against) → (change : Change)
      → change ≡ change_between health.up up → IsResult rise fall results result (with_state health up against) change
  leads_to up against leads change is_change =
      let own : step rise fall (health.up, health.against) result ≡ (up, against) =
      ap (λ n. step n fall (health.up, health.against) result) (sym is.own_rise)
      ∙ ap (λ n. step health.rise n (health.up, health.against) result) (sym is.own_fall) ∙ leads
      in
      let next = stepped rise fall (subst (λ n. 0 < n) is.own_rise standing.some_rise)
      (subst (λ n. 0 < n) is.own_fall standing.some_fall) results health result up against is own in
      record {
        health = next;
        change_is = is_change ∙ ap (λ b. change_between b up) is.stands
            ∙ ap (λ b. change_between (is_up_after rise fall results) b) next.stands;
      }

  pub same_result : beq result health.up ≡ true → IsResult rise fall results result (with_state health health.up 0) Stay
  same_result same = leads_to health.up 0 (step_same health.rise health.fall health.up health.against result same) Stay (change_stays health.up)

  pub further_result : beq result health.up ≡ false → health.against + 1 < results_to_turn health
      → IsResult rise fall results result (with_state health health.up (health.against + 1)) Stay
  further_result other few = leads_to health.up (health.against + 1) (step_more health.rise health.fall health.up health.against result other few) Stay
      (change_stays health.up)

  pub turning_result : beq result health.up ≡ false → results_to_turn health ≤ health.against + 1
      → IsResult rise fall results result (with_state health result 0) (if result then WentUp else WentDown)
  turning_result other all = leads_to result 0 (step_turn health.rise health.fall health.up health.against result other all)
      (if result then WentUp else WentDown) (change_turns health.up result other)
