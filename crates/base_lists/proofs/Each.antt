-- The items of lists of any type: what each of them meets, and where they stand.
use Rattle.std.proofs.Common.{◌≡◌, ℕ, zero, suc, ◌<◌, List, [], ◌∷◌, length, get_or, set, map, subst, sym, refl, ap, arith}
use mathlib.Core.Option.{some, some-injective, some-ne-none}
use lib.ListN.{get_elem?}
use Rattle.std.specs.List.{AllByRecursion}

module _ {A : Type 0} where
  pub all_at : (P : A → Type 0) (l : List A) (i : ℕ) (a : A) → AllByRecursion P l → get_elem? l i ≡ some a → P a
  all_at P [] i a h e = absurd (some-ne-none a (sym e))
  all_at P (x ∷ xs) zero a h e = subst P (some-injective x a e) h.0
  all_at P (x ∷ xs) (suc i) a h e = all_at P xs i a h.1 e

  pub all_set : (P : A → Type 0) (l : List A) (i : ℕ) (a : A) → AllByRecursion P l → P a → AllByRecursion P (set l i a)
  all_set P [] i a h p = tt
  all_set P (x ∷ xs) zero a h p = (p, h.1)
  all_set P (x ∷ xs) (suc i) a h p = (h.0, all_set P xs i a h.1 p)

  -- an item that is there
  pub item_at : (l : List A) (i : ℕ) → i < length l → (a : A) × (get_elem? l i ≡ some a)
  item_at [] i h = absurd (omega arith)
  item_at (x ∷ xs) zero h = (x, refl)
  item_at (x ∷ xs) (suc i) h = item_at xs i (omega arith)

  pub item_in : (l : List A) (i : ℕ) (a : A) → get_elem? l i ≡ some a → i < length l
  item_in [] i a e = absurd (some-ne-none a (sym e))
  item_in (x ∷ xs) zero a e = omega arith
  item_in (x ∷ xs) (suc i) a e = omega (arith, item_in xs i a e)

  -- the words of a row
  pub index-map : (f : A → ℕ) (l : List A) (i : ℕ) (a : A) → get_elem? l i ≡ some a → get_or (map f l) i 0 ≡ f a
  index-map f [] i a e = absurd (some-ne-none a (sym e))
  index-map f (x ∷ xs) zero a e = ap f (some-injective x a e)
  index-map f (x ∷ xs) (suc i) a e = index-map f xs i a e
