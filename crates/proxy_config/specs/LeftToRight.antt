-- The word of a line that is at fault.
use Rattle.std.specs.Prelude.{◌≡◌, ◌⊎◌, ℕ, List, ◌∷◌, ◌++◌, Result, Err}
use Rattle.proxy_config.specs.declared.faults.FaultCause.{FaultCause}
use Rattle.proxy_config.specs.declared.faults.FaultCause.TheVariants as causes

-- A word can't stand where it does: the cause is the same whatever follows it, and the words before it are
-- at most too few.
pub record CannotStand {A : Type 0} (read : List (List ℕ) → Result A FaultCause) (words : List (List ℕ)) (cause : FaultCause) : Type 0 where
  pub before : List (List ℕ)
  pub word : List ℕ
  pub after : List (List ℕ)
  pub is : words ≡ before ++ word ∷ after
  pub whatever : (others : List (List ℕ)) → read (before ++ word ∷ others) ≡ Err cause
  pub so_far : (other : FaultCause) → read before ≡ Err other → other ≡ causes.Words

-- Words are read from the left: a fault is that of a word that can't stand, or there are too few words or too many.
abbrev pub IsLeftToRight : {A : Type 0} → (List (List ℕ) → Result A FaultCause) → Type 0
IsLeftToRight read = (words : List (List ℕ)) (cause : FaultCause) → read words ≡ Err cause → (cause ≡ causes.Words) ⊎ CannotStand read words cause
