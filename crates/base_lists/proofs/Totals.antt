-- Totals of weights, over lists of any items.
use Rattle.std.proofs.Common.{◌≡◌, ℕ, zero, suc, ◌+◌, ◌<◌, ◌≤◌, ◌≢◌, List, [], ◌∷◌, ◌++◌, length, take, set, Contains, sym, refl, ap, arith}
use mathlib.Core.Logic.{dite}
use native.Mathlib.Decide.{ℕ_discrete}
use mathlib.Core.Option.{some, some-injective, some-ne-none}
use lib.ListN.{get_elem?}
use Rattle.base_lists.specs.Weights.{total}

module _ {A : Type 0} where
  module _ (f : A → ℕ) where
    pub total-append : (l m : List A) → total f (l ++ m) ≡ total f l + total f m
    total-append [] m = omega arith
    total-append (x ∷ xs) m = omega (arith, total-append xs m)

    -- one item more
    pub total-push : (l : List A) (x : A) → total f (l ++ x ∷ []) ≡ total f l + f x
    total-push l x = omega (arith, total-append l (x ∷ []))

    pub total-set : (l : List A) (j : ℕ) (v w : A) → get_elem? l j ≡ some v → total f (set l j w) + f v ≡ total f l + f w
    total-set [] j v w e = absurd (some-ne-none v (sym e))
    total-set (x ∷ xs) zero v w e = omega (arith, ap f (some-injective x v e))
    total-set (x ∷ xs) (suc j) v w e = omega (arith, total-set xs j v w e)

    pub term_le : (l : List A) (j : ℕ) (v : A) → get_elem? l j ≡ some v → f v ≤ total f l
    term_le [] j v e = absurd (some-ne-none v (sym e))
    term_le (x ∷ xs) zero v e = omega (arith, ap f (some-injective x v e))
    term_le (x ∷ xs) (suc j) v e = omega (arith, term_le xs j v e)

    pub terms_le : (l : List A) (j k : ℕ) (v u : A) → k ≢ j → get_elem? l j ≡ some v → get_elem? l k ≡ some u → f v + f u ≤ total f l
    terms_le [] j k v u n e d = absurd (some-ne-none v (sym e))
    terms_le (x ∷ xs) zero zero v u n e d = absurd (n refl)
    terms_le (x ∷ xs) zero (suc k) v u n e d = omega (arith, ap f (some-injective x v e), term_le xs k u d)
    terms_le (x ∷ xs) (suc j) zero v u n e d = omega (arith, ap f (some-injective x u d), term_le xs j v e)
    terms_le (x ∷ xs) (suc j) (suc k) v u n e d = omega (arith, terms_le xs j k v u (λ h. n (ap suc h)) e d)

    -- an item weighs at most the whole
    pub has_le : (l : List A) (x : A) → Contains l x → f x ≤ total f l
    has_le [] x (k, near, is) = absurd (omega arith)
    has_le (y ∷ ys) x (zero, near, is) = omega (arith, ap f is)
    has_le (y ∷ ys) x (suc k, near, is) = omega (arith, has_le ys x (k, omega arith, is))

    -- a list that weighs something has an item that does, and this is its index
    pub found_at : (l : List A) → 0 < total f l → (i : ℕ) × (x : A) × (get_elem? l i ≡ some x) × (0 < f x)
    found_at [] h = absurd (omega arith)
    found_at (y ∷ ys) h = dite (ℕ_discrete (f y) 0)
        (λ none. let r = found_at ys (omega arith) in (suc r.0, r.1, r.2, r.3))
        (λ some_here. (zero, y, refl, omega arith))

    -- and it is an element
    pub found : (l : List A) → 0 < total f l → (x : A) × Contains l x × (0 < f x)
    found [] h = absurd (omega arith)
    found (y ∷ ys) h = dite (ℕ_discrete (f y) 0)
        (λ none. let r = found ys (omega arith) in (r.0, (suc r.1.0, omega arith, r.1.2), r.2))
        (λ some_here. (y, (0, omega arith, refl), omega arith))

  pub total-one : (l : List A) → total (λ _. 1) l ≡ length l
  total-one [] = refl
  total-one (x ∷ xs) = omega (arith, total-one xs)

  pub total_mono : (f g : A → ℕ) → ((x : A) → f x ≤ g x) → (l : List A) → total f l ≤ total g l
  total_mono f g le [] = omega arith
  total_mono f g le (x ∷ xs) = omega (arith, le x, total_mono f g le xs)

  pub total-take : (f : A → ℕ) (l : List A) (i : ℕ) (x : A) → get_elem? l i ≡ some x → total f (take (suc i) l) ≡ total f (take i l) + f x
  total-take f [] i x e = absurd (some-ne-none x (sym e))
  total-take f (y ∷ ys) zero x e = omega (arith, ap f (some-injective y x e))
  total-take f (y ∷ ys) (suc i) x e = omega (arith, total-take f ys i x e)

  -- a list of no items weighs nothing
  pub weightless : (f : A → ℕ) (l : List A) → length l ≡ 0 → total f l ≡ 0
  weightless f [] e = refl
  weightless f (x ∷ xs) e = absurd (omega arith)

  none_at_all : (n g : A → ℕ) → ((u : A) → n u ≡ 0 → g u ≡ 0) → (l : List A) → total n l ≡ 0 → total g l ≡ 0
  none_at_all n g none [] e = refl
  none_at_all n g none (x ∷ xs) e = omega (arith, none x (omega arith), none_at_all n g none xs (omega arith))

  -- where the whole of n is that of one item, the other items weigh nothing by g
  pub alone : (n g : A → ℕ) → ((u : A) → n u ≡ 0 → g u ≡ 0) → (l : List A) (j : ℕ) (v : A) → get_elem? l j ≡ some v → total n l ≤ n v → total g l ≡ g v
  alone n g none [] j v e le = absurd (some-ne-none v (sym e))
  alone n g none (x ∷ xs) zero v e le = omega (
    arith,
    ap n (some-injective x v e),
    ap g (some-injective x v e),
    none_at_all n g none xs (omega (arith, ap n (some-injective x v e))),
  )
  alone n g none (x ∷ xs) (suc j) v e le = let part = term_le n xs j v e in omega (arith, none x (omega arith), alone n g none xs j v e (omega arith))
