-- Lists in which no item stands twice.
use Rattle.std.specs.Prelude.{List, [], ◌∷◌, Contains}

abbrev pub ComeOnce : {X : Type 0} → List X → Type 0
ComeOnce [] = Unit {0}
ComeOnce (x ∷ later) = ¬ (Contains later x) × ComeOnce later
