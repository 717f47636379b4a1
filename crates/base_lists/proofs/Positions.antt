-- Weights that look at positions, along rows of any items.
use Rattle.std.proofs.Common.{◌≡◌, ℕ, zero, suc, ◌+◌, ◌<◌, ◌≤◌, ◌≢◌, List, [], ◌∷◌, length, set, Some, slice_get, sym, refl, ap, arith}
use mathlib.Core.Logic.{dite}
use native.Mathlib.Decide.{ℕ_discrete}
use mathlib.Core.Option.{some, some-injective, some-ne-none}
use lib.ListN.{get_elem?}
use Rattle.std.proofs.lemmas.Option.{same_Some}
use Rattle.base_lists.specs.Weights.{along}

module _ {A : Type 0} where
  -- an item that stands at a place has that position
  pub item_stands : (l : List A) (i : ℕ) (c : A) → slice_get l i ≡ Some c → get_elem? l i ≡ some c
  item_stands [] i c at = cc
  item_stands (x ∷ xs) zero c at = ap some (same_Some x c at)
  item_stands (x ∷ xs) (suc i) c at = item_stands xs i c at

  pub stands_item : (l : List A) (i : ℕ) (c : A) → get_elem? l i ≡ some c → slice_get l i ≡ Some c
  stands_item [] i c e = absurd (some-ne-none c (sym e))
  stands_item (x ∷ xs) zero c e = ap Some (some-injective x c e)
  stands_item (x ∷ xs) (suc i) c e = stands_item xs i c e

  -- along a row, the item at i has the position k, which is j + i
  pub along-set : (f : ℕ → A → ℕ) (l : List A) (j i k : ℕ) (c d : A) → k ≡ j + i → get_elem? l i ≡ some c → along f j (set l i d) + f k c ≡ along f j l + f k d
  along-set f [] j i k c d at e = absurd (some-ne-none c (sym e))
  along-set f (x ∷ xs) j zero k c d at e = let here : k ≡ j = omega arith in
      omega (arith, ap (f j) (some-injective x c e), ap (λ n. f n c) here, ap (λ n. f n d) here)
  along-set f (x ∷ xs) j (suc i) k c d at e = omega (arith, along-set f xs (suc j) i k c d (omega arith) e)

  pub along_le : (f : ℕ → A → ℕ) (l : List A) (j i k : ℕ) (c : A) → k ≡ j + i → get_elem? l i ≡ some c → f k c ≤ along f j l
  along_le f [] j i k c at e = absurd (some-ne-none c (sym e))
  along_le f (x ∷ xs) j zero k c at e = let here : k ≡ j = omega arith in omega (arith, ap (f j) (some-injective x c e), ap (λ n. f n c) here)
  along_le f (x ∷ xs) j (suc i) k c at e = omega (arith, along_le f xs (suc j) i k c (omega arith) e)

  pub along_mono : (f g : ℕ → A → ℕ) → ((k : ℕ) (c : A) → f k c ≤ g k c) → (l : List A) (j : ℕ) → along f j l ≤ along g j l
  along_mono f g le [] j = omega arith
  along_mono f g le (x ∷ xs) j = omega (arith, le j x, along_mono f g le xs (suc j))

  pub along_found : (f : ℕ → A → ℕ) (l : List A) (j : ℕ) → 0 < along f j l → (i : ℕ) × (k : ℕ) × (c : A) × (k ≡ j + i) × (get_elem? l i ≡ some c) × (0 < f k c)
  along_found f [] j h = absurd (omega arith)
  along_found f (x ∷ xs) j h = dite (ℕ_discrete (f j x) 0)
      (λ none. let r = along_found f xs (suc j) (omega arith) in (suc r.0, r.1, r.2, omega (arith, r.3), r.4, r.5))
      (λ some_here. (0, j, x, omega arith, refl, omega arith))

  -- a weighing that is 0 but at one position, past it
  pub along_past : (f : ℕ → A → ℕ) (p : ℕ) → ((k : ℕ) (c : A) → k ≢ p → f k c ≡ 0) → (l : List A) (j : ℕ) → p < j → along f j l ≡ 0
  along_past f p else_none [] j h = refl
  along_past f p else_none (x ∷ xs) j h = omega (arith, else_none j x (omega arith), along_past f p else_none xs (suc j) (omega arith))

  -- and where it is
  pub along_at : (f : ℕ → A → ℕ) (p : ℕ) → ((k : ℕ) (c : A) → k ≢ p → f k c ≡ 0) → (l : List A) (j i : ℕ) (c : A) → p ≡ j + i → get_elem? l i ≡ some c
      → along f j l ≡ f p c
  along_at f p else_none [] j i c at e = absurd (some-ne-none c (sym e))
  along_at f p else_none (x ∷ xs) j zero c at e = let here : p ≡ j = omega arith in
      omega (arith, ap (f j) (some-injective x c e), ap (λ n. f n c) here, along_past f p else_none xs (suc j) (omega arith))
  along_at f p else_none (x ∷ xs) j (suc i) c at e = omega (arith, else_none j x (omega arith), along_at f p else_none xs (suc j) i c (omega arith) e)

  -- a weighing that is 0 but at one position, and at most 1 there
  pub along_once : (f : ℕ → A → ℕ) (p : ℕ) → ((k : ℕ) (c : A) → k ≢ p → f k c ≡ 0) → ((k : ℕ) (c : A) → f k c ≤ 1) → (l : List A) (j : ℕ) → along f j l ≤ 1
  along_once f p else_none one [] j = omega arith
  along_once f p else_none one (x ∷ xs) j = dite (ℕ_discrete j p)
      (λ here. omega (arith, one j x, along_past f p else_none xs (suc j) (omega arith)))
      (λ ne. omega (arith, else_none j x ne, along_once f p else_none one xs (suc j)))

  pub along_length : (f : ℕ → A → ℕ) → ((k : ℕ) (c : A) → f k c ≤ 1) → (l : List A) (j : ℕ) → along f j l ≤ length l
  along_length f one [] j = omega arith
  along_length f one (x ∷ xs) j = omega (arith, one j x, along_length f one xs (suc j))
