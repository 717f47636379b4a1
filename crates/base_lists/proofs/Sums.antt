-- What the sum of a list's weights tells of one item.
use Rattle.std.proofs.Common.{◌≡◌, ℕ, zero, suc, ◌+◌, ◌<◌, ◌≤◌, List, [], ◌∷◌, length, Contains, refl, ap, arith, inl, inr}
use Rattle.std.specs.List.{sum_by}
use Rattle.std.proofs.lemmas.List.Sums.{sum_by-cons}
use Rattle.base_lists.proofs.Members.{Contains-nil, Contains-head, Contains-tail, Contains-cases}

module _ {X : Type 0} where
  -- no element weighs more than all
  pub sum_has : (weight : X → ℕ) (xs : List X) (x : X) → Contains xs x → weight x ≤ sum_by weight xs
  sum_has weight [] x among = absurd (Contains-nil x among)
  sum_has weight (y ∷ xs) x among =
      let sum = sum_by-cons weight y xs in
      elim (Contains-cases y xs x among) [
        | inl same ↦ let e : weight y ≡ weight x = ap weight same in omega arith
        | inr later ↦ let e : weight x ≤ sum_by weight xs = sum_has weight xs x later in omega arith
      ]

  -- what weighs something has an element that does
  pub sum_found : (weight : X → ℕ) (xs : List X) → 0 < sum_by weight xs → (x : X) × Contains xs x × (0 < weight x)
  sum_found weight [] heavy = absurd (omega (arith, heavy))
  sum_found weight (y ∷ xs) heavy = by_weight (weight y) refl (sum_found weight xs)
    where
      by_weight : (n : ℕ) → weight y ≡ n → (0 < sum_by weight xs → (x : X) × Contains xs x × (0 < weight x)) → (x : X) × Contains (y ∷ xs) x × (0 < weight x)
      by_weight zero light later =
          let sum = sum_by-cons weight y xs in
          let rest = later (omega arith) in
          (rest.0, Contains-tail y xs rest.0 rest.1, rest.2)
      by_weight (suc n) e later = (y, Contains-head y xs, omega arith)

  -- a list weighs its length where each element weighs 1
  pub sum_ones : (xs : List X) → sum_by (λ (x : X). 1) xs ≡ length xs
  sum_ones [] = refl
  sum_ones (x ∷ xs) = let sum = sum_by-cons (λ (y : X). 1) x xs in let rest = sum_ones xs in let long : length (x ∷ xs) ≡ length xs + 1 = omega arith in
      omega arith
