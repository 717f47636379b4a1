-- What weights tell of the items of a list, where a test tells equal items.
use Rattle.std.proofs.Common.{◌≡◌, ℕ, ◌<◌, Bool, true, false, cond, List, Contains, subst, ap, refl, arith}
use Rattle.base_lists.specs.Weights.{total, AreIn}
use Rattle.base_lists.proofs.Totals.{has_le, found}

-- 1 at this item alone
abbrev pub one : {A : Type 0} → (A → A → Bool) → A → A → ℕ
one same x y = cond (same y x) 1 0

pub record TellsEqual {A : Type 0} (same : A → A → Bool) : Type 0 where
  pub is : (x y : A) → same x y ≡ true → x ≡ y
  pub itself : (x : A) → same x x ≡ true

pub both_true : (a b : Bool) → cond a b false ≡ true → (a ≡ true) × (b ≡ true)
both_true true b e = (refl, e)
both_true false b e = absurd (cc)

weighs_something : (b : Bool) → 0 < cond b 1 0 → b ≡ true
weighs_something true h = refl
weighs_something false h = absurd (omega arith)

module _ {A : Type 0} (same : A → A → Bool) (tells : TellsEqual same) where
  pub one-is : (x y : A) → 0 < one same x y → y ≡ x
  one-is x y h = tells.is y x (weighs_something (same y x) h)

  pub one-same : (x : A) → one same x x ≡ 1
  one-same x = ap {B = ℕ} (λ (b : Bool). cond b 1 0) (tells.itself x)

  -- a list that weighs something there has the item
  pub has_one : (xs : List A) (x : A) → 0 < total (one same x) xs → Contains xs x
  has_one xs x h = let f = found (one same x) xs h in subst (Contains xs) (one-is x f.0 f.2) f.1

  pub weighs_one : (xs : List A) (x : A) → Contains xs x → 0 < total (one same x) xs
  weighs_one xs x h = omega (arith, has_le (one same x) xs x h, one-same x)

  -- each item of a list within another is one of that
  pub AreIn-Contains : (xs ys : List A) (x : A) → AreIn xs ys → Contains xs x → Contains ys x
  AreIn-Contains xs ys x within mine = has_one ys x (omega (arith, within (one same x), weighs_one xs x mine))
