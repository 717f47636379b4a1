-- Checks that run.
use Rattle.std.proofs.Common.{ℕ, suc, zero, ◌≡◌, Bool, true, false, List, [], ◌∷◌, None, slice_set, refl, ap}
use Rattle.run_gate.specs.Probes.{EndsBy}

-- a check that isn't over isn't late
pub not_over : (failure told late : Bool) → EndsBy failure told late None → late ≡ false
not_over true told late ended = absurd ended
not_over false true late ended = (let it = ended in cc)
not_over false false true ended = (let it = ended in cc)
not_over false false false ended = refl

-- of two values that are laid at one place the second stays
pub laid_twice : {A : Type 0} (items : List A) (place : ℕ) (first second : A) → slice_set (slice_set items place first) place second ≡ slice_set items place second
laid_twice [] place first second = refl
laid_twice (item ∷ items) zero first second = refl
laid_twice (item ∷ items) (suc place) first second = ap (λ others. item ∷ others) (laid_twice items place first second)
