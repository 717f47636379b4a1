-- The result of reading a line: a value, or the first word that doesn't fit.
use Rattle.std.specs.Prelude.{◌≡◌, Result, Ok, Err}
use Rattle.run_control.specs.declared.pieces.Misfit.{Misfit}

-- one part is read, and then the next: the first misfit is the misfit of the whole
infixl 10 ◌>>=◌
abbrev pub ◌>>=◌ : {A B : Type 0} → Result A Misfit → (A → Result B Misfit) → Result B Misfit
(Ok x) >>= f = f x
(Err misfit) >>= f = Err misfit

-- what a function returned, mapped by view, is what the definition of the reading gives
abbrev pub Sees : {X Y : Type 0} → (X → Y) → Result X Misfit → Result Y Misfit → Type 0
Sees view (Ok x) read = read ≡ Ok (view x)
Sees view (Err misfit) read = read ≡ Err misfit
