-- Runs in a list of results.
use Rattle.std.proofs.Common.{◌≡◌, ℕ, zero, suc, ◌<◌, Bool, true, false, not, ◌&&◌, ◌||◌, List, [], ◌∷◌, ◌++◌, replicate, refl, ap, ◌∙◌, arith}
use Rattle.std.specs.Bool.{beq}
use Rattle.check_state.specs.Results.{begins_with, has_run, is_down}

pub beq_same : (which : Bool) → beq which which ≡ true
beq_same true = refl
beq_same false = refl

-- a longer run doesn't begin where the results do not
longer_begins : (count : ℕ) (which : Bool) (results : List Bool) → begins_with 1 which results ≡ false → begins_with (suc count) which results ≡ false
longer_begins count which [] other = refl
longer_begins count true (true ∷ later) other = cc
longer_begins count true (false ∷ later) other = refl
longer_begins count false (true ∷ later) other = refl
longer_begins count false (false ∷ later) other = cc

-- too few in a row are no run
fewer_begin : (count fewer : ℕ) (which : Bool) (rest : List Bool) → begins_with 1 which rest ≡ false → fewer < count
    → begins_with count which (replicate fewer which ++ rest) ≡ false
fewer_begin zero fewer which rest other few = absurd (omega arith)
fewer_begin (suc count) zero which rest other few = longer_begins count which rest other
fewer_begin (suc count) (suc fewer) which rest other few =
    ap (λ b. b && begins_with count which (replicate fewer which ++ rest)) (beq_same which) ∙ fewer_begin count fewer which rest other (omega arith)

-- enough in a row are one
pub enough_begin : (count : ℕ) (which : Bool) (rest : List Bool) → begins_with count which (replicate count which ++ rest) ≡ true
enough_begin zero which rest = refl
enough_begin (suc count) which rest =
    ap (λ b. b && begins_with count which (replicate count which ++ rest)) (beq_same which) ∙ enough_begin count which rest

-- a run is not begun by too few results, nor by others
pub fewer_run : (count fewer : ℕ) (which : Bool) (rest : List Bool) → begins_with 1 which rest ≡ false → fewer < count
    → has_run count which (replicate fewer which ++ rest) ≡ has_run count which rest
fewer_run count zero which rest other few = refl
fewer_run count (suc fewer) which rest other few =
    ap (λ b. b || has_run count which (replicate fewer which ++ rest)) (fewer_begin count (suc fewer) which rest other few)
    ∙ fewer_run count fewer which rest other (omega arith)

pub enough_run : (count : ℕ) (which : Bool) (rest : List Bool) → has_run count which (replicate count which ++ rest) ≡ true
enough_run zero which [] = refl
enough_run zero which (result ∷ rest) = refl
enough_run (suc count) which rest = ap (λ b. b || has_run (suc count) which (replicate count which ++ rest)) (enough_begin (suc count) which rest)

pub failure_in_run : (rise : ℕ) (later : List Bool) → 0 < rise → has_run rise true (false ∷ later) ≡ has_run rise true later
failure_in_run rise later some = ap (λ b. b || has_run rise true later) (fewer_begin rise 0 true (false ∷ later) refl some)

pub failures_in_run : (rise count : ℕ) (later : List Bool) → 0 < rise → has_run rise true (replicate count false ++ later) ≡ has_run rise true later
failures_in_run rise zero later some = refl
failures_in_run rise (suc count) later some = failure_in_run rise (replicate count false ++ later) some ∙ failures_in_run rise count later some

-- whether a server is down, by what the list begins with
pub fewer_down : (rise fall fewer : ℕ) (rest : List Bool) → begins_with 1 false rest ≡ false → fewer < fall
    → is_down rise fall (replicate fewer false ++ rest) ≡ is_down rise fall rest
fewer_down rise fall zero rest other few = refl
fewer_down rise fall (suc fewer) rest other few =
    ap (λ b. (b && not (has_run rise true (replicate fewer false ++ rest))) || is_down rise fall (replicate fewer false ++ rest))
    (fewer_begin fall (suc fewer) false rest other few) ∙ fewer_down rise fall fewer rest other (omega arith)

pub success_down : (rise fall : ℕ) (later : List Bool) → 0 < fall → is_down rise fall (true ∷ later) ≡ is_down rise fall later
success_down rise fall later some =
    ap (λ b. (b && not (has_run rise true later)) || is_down rise fall later) (fewer_begin fall 0 false (true ∷ later) refl some)

-- failures before a run of successes don't count
answered : (down : Bool) (begun : Bool) (run : Bool) → run ≡ true → ((begun && not run) || down) ≡ down
answered down true true is = refl
answered down false true is = refl
answered down begun false is = cc

pub answered_down : (rise fall count : ℕ) (later : List Bool) → 0 < rise → has_run rise true later ≡ true
    → is_down rise fall (replicate count false ++ later) ≡ is_down rise fall later
answered_down rise fall zero later some run = refl
answered_down rise fall (suc count) later some run =
    answered _ _ _ (failures_in_run rise count later some ∙ run) ∙ answered_down rise fall count later some run

-- enough failures decide, unless a run of successes comes after them
enough_fall : (run begun down : Bool) → begun ≡ true → run ≡ false → ((begun && not run) || down) ≡ true
enough_fall false true down is none = refl
enough_fall true begun down is none = cc
enough_fall false false down is none = cc

pub enough_down : (rise fall : ℕ) (later : List Bool) → 0 < rise → 0 < fall → has_run rise true later ≡ false
    → is_down rise fall (replicate fall false ++ later) ≡ true
enough_down rise zero later some_rise some_fall none = absurd (omega arith)
enough_down rise (suc fall) later some_rise some_fall none =
    enough_fall _ _ _ (enough_begin (suc fall) false later) (failures_in_run rise fall later some_rise ∙ none)
