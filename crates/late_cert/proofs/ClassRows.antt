-- At which place of a table the row of a class stands.
use Rattle.std.proofs.Common.{◌≡◌, ℕ, zero, suc, ◌⊎◌, inl, inr, Bool, true, false, cond, List, [], ◌∷◌, Option, None, ℤ, pos, negsuc}
use Rattle.std.proofs.Common.{◌+ℤ◌, ◌-ℤ◌, ◌<ℤ◌, ◌≤◌, length, refl, sym, ap, ◌∙◌, arith}
use Rattle.std.specs.Ordering.{int_eq}
use Rattle.std.proofs.lemmas.Bool.Decides.{Decides-int_eq}
use Rattle.std.proofs.lemmas.Int.{ints}
use Rattle.due_key.specs.declared.class.TheConstants.{LOWEST_CLASS}
use Rattle.late_cert.specs.Table.{row_at, row_from, row_of}
use Rattle.late_cert.specs.declared.worsts.Worsts.{Worsts}

other_class : (class lowest : ℤ) → (class ≡ lowest → ⊥) → int_eq class lowest ≡ false
other_class class lowest differ = by_test (int_eq class lowest) refl
  where
    by_test : (b : Bool) → int_eq class lowest ≡ b → b ≡ false
    by_test true e = absurd (differ ((Decides-int_eq class lowest).0 e))
    by_test false e = refl

-- so far from the first row as the class lies above the lowest one
pub row_from-at : (lowest class : ℤ) (n : ℕ) → pos n ≡ class -ℤ lowest → (table : List (Option Worsts)) → row_from lowest table class ≡ row_at table n
unfolding row_from
row_from-at lowest class n is [] = refl
row_from-at lowest class zero is (row ∷ rows) =
    ap (λ b. cond b row (row_from (lowest +ℤ pos 1) rows class)) ((Decides-int_eq class lowest).1 (grind (arith, ints)))
row_from-at lowest class (suc n) is (row ∷ rows) =
    ap (λ b. cond b row (row_from (lowest +ℤ pos 1) rows class)) (other_class class lowest (λ same. omega (arith, ints, same, is)))
    ∙ row_from-at (lowest +ℤ pos 1) class n (omega (arith, ints)) rows

-- nowhere where the class lies below the lowest one
row_from-none : (lowest class : ℤ) → class <ℤ lowest → (table : List (Option Worsts)) → row_from lowest table class ≡ None
unfolding row_from
row_from-none lowest class below [] = refl
row_from-none lowest class below (row ∷ rows) =
    ap (λ b. cond b row (row_from (lowest +ℤ pos 1) rows class)) (other_class class lowest (λ same. omega (arith, ints, same, below)))
    ∙ row_from-none (lowest +ℤ pos 1) class (omega (arith, ints)) rows

pub row_of-at : (class : ℤ) (n : ℕ) → pos n ≡ class -ℤ LOWEST_CLASS → (table : List (Option Worsts)) → row_of table class ≡ row_at table n
row_of-at class n is table = row_from-at LOWEST_CLASS class n is table

-- a class's row stands at one place of every table, or at none of any
pub class_place : (class : ℤ) → ((at : ℕ) × ((table : List (Option Worsts)) → row_of table class ≡ row_at table at))
    ⊎ ((table : List (Option Worsts)) → row_of table class ≡ None)
class_place class = by_distance (class -ℤ LOWEST_CLASS) refl
  where
    by_distance : (z : ℤ) → class -ℤ LOWEST_CLASS ≡ z → ((at : ℕ) × ((table : List (Option Worsts)) → row_of table class ≡ row_at table at))
        ⊎ ((table : List (Option Worsts)) → row_of table class ≡ None)
    by_distance (pos n) e = inl (n, row_of-at class n (sym e))
    by_distance (negsuc n) e = inr (row_from-none LOWEST_CLASS class (grind (arith, ints)))

module _ {X : Type 0} (f : Option Worsts → X) where
  -- what is the same at each place is so for each class
  pub each_class : (old new : List (Option Worsts)) → ((place : ℕ) → f (row_at new place) ≡ f (row_at old place)) → (class : ℤ)
      → f (row_of new class) ≡ f (row_of old class)
  each_class old new same class = elim (class_place class) [
    | inl it ↦ ap f (it.1 new) ∙ same it.0 ∙ ap f (sym (it.1 old))
    | inr none ↦ ap f (none new) ∙ ap f (sym (none old))
  ]

  -- and what each place says, each class does, if no row says so too
  pub each_says : (table : List (Option Worsts)) (x : X) → f None ≡ x → ((place : ℕ) → f (row_at table place) ≡ x) → (class : ℤ)
      → f (row_of table class) ≡ x
  each_says table x bare says class = elim (class_place class) [ inl it ↦ ap f (it.1 table) ∙ says it.0 | inr none ↦ ap f (none table) ∙ bare ]

-- behind a table's rows there is none
pub none_behind : (table : List (Option Worsts)) (place : ℕ) → length table ≤ place → row_at table place ≡ None
none_behind [] place far = refl
none_behind (row ∷ rows) zero far = absurd (omega (arith, far))
none_behind (row ∷ rows) (suc place) far = none_behind rows place (omega arith)
