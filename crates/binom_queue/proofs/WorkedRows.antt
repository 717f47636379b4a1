-- The definitions at worked examples: what must hold, and wrong trees that must not be taken.
use Rattle.std.proofs.Common.{◌≡◌, ◌≢◌, ℕ, ◌≤◌, [], ◌∷◌, Some, None, refl, arith, nat_cmp, Box, Global}
use Rattle.binom_queue.specs.declared.forest.Forest.{Forest}
use Rattle.binom_queue.specs.declared.forest.Forest.TheVariants.{Empty, Of'}
use Rattle.binom_queue.specs.Queue.{by_key}
use Rattle.binom_queue.specs.Trees.{items, trees, depth, root_of, AreChildren, AreRoots}

-- a tree of four pairs behind a tree of one, whose five pairs are 101 in binary
module _ (box : Box (Unit {0}) Global) where
  abbrev leaf : ℕ → ℕ → Forest ℕ ℕ → Forest ℕ ℕ
  leaf key order next = Of' box (key, 10) order Empty next

  abbrev below_two : Forest ℕ ℕ
  below_two = Of' box (5, 10) 1 (leaf 9 0 Empty) (leaf 4 0 Empty)

  abbrev row : Forest ℕ ℕ
  row = leaf 7 0 (Of' box (3, 10) 2 below_two Empty)

  row_items : items row ≡ (7, 10) ∷ (3, 10) ∷ (5, 10) ∷ (9, 10) ∷ (4, 10) ∷ []
  row_items = refl

  row_trees : trees row ≡ 2
  row_trees = refl

  -- 7, 3, 5, 9
  row_depth : depth row ≡ 4
  row_depth = refl

  row_root : root_of 2 row ≡ Some (3, 10)
  row_root = refl

  row_no_root : root_of 1 row ≡ None
  row_no_root = refl

  row_is : AreRoots nat_cmp 0 row
  row_is =
      let fits : AreChildren nat_cmp 3 2 below_two = (refl, λ above. cc above, (refl, λ above. cc above, tt, tt), (refl, λ above. cc above, tt, tt)) in
      (omega arith, tt, (omega arith, fits, tt))

  -- from order 1 on, the first tree is too small
  not_from_one : AreRoots nat_cmp 1 row → ⊥
  not_from_one are = let no : 1 ≤ 0 = are.0 in omega arith

  -- two trees of one order
  no_order_twice : AreRoots nat_cmp 0 (leaf 7 0 (leaf 8 0 Empty)) → ⊥
  no_order_twice are = let no : 1 ≤ 0 = are.2.0 in omega arith

  -- a key below its root's
  no_key_below_root : AreRoots nat_cmp 0 (Of' box (6, 10) 2 below_two Empty) → ⊥
  no_key_below_root are = are.1.1 refl

  -- the smaller tree first
  no_rising_children : AreChildren nat_cmp 3 2 (leaf 4 0 (Of' box (5, 10) 1 (leaf 9 0 Empty) Empty)) → ⊥
  no_rising_children are = cc are.0

  -- a tree is missing
  no_gap : AreChildren nat_cmp 3 2 (Of' box (5, 10) 1 (leaf 9 0 Empty) Empty) → ⊥
  no_gap are = are.3

sorted_row : by_key {V = ℕ} nat_cmp ((7, 70) ∷ (3, 30) ∷ (5, 50) ∷ []) ≡ (3, 30) ∷ (5, 50) ∷ (7, 70) ∷ []
sorted_row = refl

-- of a key that comes twice one pair is lost
lost_row : by_key {V = ℕ} nat_cmp ((7, 70) ∷ (3, 30) ∷ (7, 71) ∷ []) ≡ (3, 30) ∷ (7, 70) ∷ []
lost_row = refl

not_as_they_come : by_key {V = ℕ} nat_cmp ((7, 70) ∷ (3, 30) ∷ []) ≢ (7, 70) ∷ (3, 30) ∷ []
not_as_they_come same = cc same
