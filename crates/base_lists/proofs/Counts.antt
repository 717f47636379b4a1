-- How often a test holds in a list.
use Rattle.std.proofs.Common.{◌≡◌, ℕ, zero, suc, ◌+◌, ◌≤◌, Bool, true, false, List, [], ◌∷◌, Some, slice_get, map, count_by, refl, sym, ap, ◌∙◌, arith}
use Rattle.std.proofs.lemmas.List.Sums.{sum_by-cons}
use Rattle.std.proofs.lemmas.Option.{same_Some}
use Rattle.base_lists.proofs.Places.{tally}

module _ {X : Type 0} (p : X → Bool) where
  counted : (x : X) (xs : List X) → count_by p (x ∷ xs) ≡ tally (p x) + count_by p xs
  counted x xs = sum_by-cons (λ y. tally (p y)) x xs

  -- it holds once at least where it holds at a place
  pub some_at : (xs : List X) (i : ℕ) (x : X) → slice_get xs i ≡ Some x → p x ≡ true → 1 ≤ count_by p xs
  some_at [] i x at holds = cc
  some_at (y ∷ ys) zero x at holds =
      let here : tally (p y) ≡ 1 = ap (λ z. tally (p z)) (same_Some y x at) ∙ ap tally holds in
      let all : count_by p (y ∷ ys) ≡ tally (p y) + count_by p ys = counted y ys in
      omega arith
  some_at (y ∷ ys) (suc i) x at holds =
      let later : 1 ≤ count_by p ys = some_at ys i x at holds in
      let all : count_by p (y ∷ ys) ≡ tally (p y) + count_by p ys = counted y ys in
      omega arith

  -- and at one place alone where it holds once at most
  pub one_at : (xs : List X) (i j : ℕ) (x y : X) → count_by p xs ≤ 1 → slice_get xs i ≡ Some x → p x ≡ true → slice_get xs j ≡ Some y → p y ≡ true → i ≡ j
  one_at [] i j x y few at holds other too = cc
  one_at (z ∷ zs) zero zero x y few at holds other too = refl
  one_at (z ∷ zs) (suc i) (suc j) x y few at holds other too =
      let all : count_by p (z ∷ zs) ≡ tally (p z) + count_by p zs = counted z zs in
      ap suc (one_at zs i j x y (omega arith) at holds other too)
  one_at (z ∷ zs) zero (suc j) x y few at holds other too =
      let here : tally (p z) ≡ 1 = ap (λ w. tally (p w)) (same_Some z x at) ∙ ap tally holds in
      let later : 1 ≤ count_by p zs = some_at zs j y other too in
      let all : count_by p (z ∷ zs) ≡ tally (p z) + count_by p zs = counted z zs in
      absurd (omega arith)
  one_at (z ∷ zs) (suc i) zero x y few at holds other too =
      let here : tally (p z) ≡ 1 = ap (λ w. tally (p w)) (same_Some z y other) ∙ ap tally too in
      let later : 1 ≤ count_by p zs = some_at zs i x at holds in
      let all : count_by p (z ∷ zs) ≡ tally (p z) + count_by p zs = counted z zs in
      absurd (omega arith)

  -- it holds at a place where it holds once at least
  pub at_some : (xs : List X) → 1 ≤ count_by p xs → (i : ℕ) × (x : X) × (slice_get xs i ≡ Some x) × (p x ≡ true)
  at_some [] some = absurd (omega (arith, some))
  at_some (y ∷ ys) some = by_first (p y) refl (at_some ys)
    where
      by_first : (b : Bool) → p y ≡ b → (1 ≤ count_by p ys → (i : ℕ) × (x : X) × (slice_get ys i ≡ Some x) × (p x ≡ true))
          → (i : ℕ) × (x : X) × (slice_get (y ∷ ys) i ≡ Some x) × (p x ≡ true)
      by_first true e later = (zero, y, refl, e)
      by_first false e later =
          let here : tally (p y) ≡ 0 = ap tally e in
          let all : count_by p (y ∷ ys) ≡ tally (p y) + count_by p ys = counted y ys in
          let it = later (omega arith) in
          (suc it.0, it.1, it.2, it.3)

-- a test of what is made of each item
pub count-map : {X Y : Type 0} (p : Y → Bool) (f : X → Y) (xs : List X) → count_by p (map f xs) ≡ count_by (λ x. p (f x)) xs
count-map p f [] = refl
count-map p f (x ∷ xs) =
    sum_by-cons (λ y. tally (p y)) (f x) (map f xs) ∙ ap (λ n. tally (p (f x)) + n) (count-map p f xs) ∙ sym (sum_by-cons (λ y. tally (p (f y))) x xs)
