-- Lists compared by weight: two lists that weigh the same under every weight function have the same
-- items, each the same number of times.
use Rattle.std.specs.Prelude.{ℕ, suc, ◌+◌, ◌≤◌, List, [], ◌∷◌}

-- the sum of the items' weights
abbrev pub total : {A : Type 0} → (A → ℕ) → List A → ℕ
total weight [] = 0
total weight (x ∷ xs) = weight x + total weight xs

-- the sum of the items' weights, where the weight depends on the item's position too, and the first position is i
abbrev pub along : {A : Type 0} → (ℕ → A → ℕ) → ℕ → List A → ℕ
along weight i [] = 0
along weight i (x ∷ xs) = weight i x + along weight (suc i) xs

-- each item of the first list is in the second, at least as often
abbrev pub AreIn : {A : Type 0} → List A → List A → Type 0
AreIn {A} xs ys = (weight : A → ℕ) → total weight xs ≤ total weight ys
