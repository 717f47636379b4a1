-- Two lists, one of which is a front of the other.
use Rattle.std.specs.Prelude.{◌≡◌, ◌⊎◌, List, ◌++◌}

pub record IsFront {A : Type 0} (front all : List A) : Type 0 where
  pub rest : List A
  pub is : all ≡ front ++ rest

abbrev pub AreComparable : {A : Type 0} → List A → List A → Type 0
AreComparable first second = IsFront first second ⊎ IsFront second first
