-- Trees found in a row by their order.
use Rattle.std.proofs.Common.{◌≡◌, ◌≢◌, ℕ, suc, ◌≤◌, Bool, true, false, if◌then◌else◌, nat_eq, Some, ◌∷◌, ◌++◌, Contains, refl, ap, subst, ◌∙◌, Ordering, arith}
use Rattle.base_lists.proofs.Members.{Contains-head, Contains-tail}
use Rattle.std.proofs.lemmas.List.Elements.{Contains-append_right}
use Rattle.std.proofs.lemmas.Bool.{eqb-true, eq-eqb}
use Rattle.binom_queue.specs.declared.forest.Forest.{Forest}
use Rattle.binom_queue.specs.declared.forest.Forest.TheVariants.{Empty, Of'}
use Rattle.binom_queue.specs.Trees.{items, root_of, AreRoots}

test_of_other : (m n : ℕ) → m ≢ n → nat_eq m n ≡ false
test_of_other m n differs = at (nat_eq m n) refl
  where
    at : (b : Bool) → nat_eq m n ≡ b → nat_eq m n ≡ false
    at true is = absurd (differs (eqb-true m n is))
    at false is = is

module _ {K V : Type 0} (cmp : K → K → Ordering) where
  -- a root of trees from an order on has no smaller order
  pub root_of_above : (low n : ℕ) (roots : Forest K V) (p : K × V) → AreRoots cmp low roots → root_of n roots ≡ Some p → low ≤ n
  root_of_above low n Empty p are found = cc
  root_of_above low n (Of' box pair order child next) p are found = at (nat_eq order n) refl found (root_of_above (suc order) n next p are.2)
    where
      at : (b : Bool) → nat_eq order n ≡ b → (if b then Some pair else root_of n next) ≡ Some p → (root_of n next ≡ Some p → suc order ≤ n) → low ≤ n
      at true is here rest = let same : order ≡ n = eqb-true order n is in let least = are.0 in omega arith
      at false is later rest = let above : suc order ≤ n = rest later in let least = are.0 in omega arith

  module _ (pair : K × V) (order : ℕ) (next : Forest K V) where
    -- the root of a row's first order is its first
    pub root_of_first : (if nat_eq order order then Some pair else root_of order next) ≡ Some pair
    root_of_first = ap (λ (b : Bool). if b then Some pair else root_of order next) (eq-eqb order order refl)

    -- a root after the first one
    pub root_of_later : (n : ℕ) (p : K × V) → AreRoots cmp (suc order) next → root_of n next ≡ Some p
        → (if nat_eq order n then Some pair else root_of n next) ≡ Some p
    root_of_later n p are found =
        let above : suc order ≤ n = root_of_above (suc order) n next p are found in
        let differs : nat_eq order n ≡ false = test_of_other order n (λ same. omega arith) in
        ap (λ (b : Bool). if b then Some pair else root_of n next) differs ∙ found

-- a root is among the pairs
module _ {K V : Type 0} where
  pub root_of_among : (n : ℕ) (roots : Forest K V) (p : K × V) → root_of n roots ≡ Some p → Contains (items roots) p
  root_of_among n Empty p found = cc
  root_of_among n (Of' box pair order child next) p found = at (nat_eq order n) found (root_of_among n next p)
    where
      at : (b : Bool) → (if b then Some pair else root_of n next) ≡ Some p → (root_of n next ≡ Some p → Contains (items next) p)
          → Contains (pair ∷ (items child ++ items next)) p
      at true here rest = let same : pair ≡ p = cc in subst (Contains (pair ∷ (items child ++ items next))) same
          (Contains-head pair (items child ++ items next))
      at false later rest = Contains-tail pair (items child ++ items next) p (Contains-append_right (items child) (items next) p (rest later))
