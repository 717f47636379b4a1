-- Rows of trees: their pairs, their sizes, and when they are binomial heaps.
use Rattle.std.specs.Prelude.{◌≡◌, ◌≢◌, ℕ, zero, suc, ◌+◌, ◌≤◌, max, if◌then◌else◌, nat_eq, List, [], ◌∷◌, ◌++◌, Option, Some, None, IsPermutation}
use Rattle.std.specs.declared.cmp.Ordering.{Ordering}
use Rattle.std.specs.declared.cmp.Ordering.TheVariants.{Equal, Greater}
use Rattle.binom_queue.specs.declared.forest.Forest.{Forest}
use Rattle.binom_queue.specs.declared.forest.Forest.TheVariants.{Empty, Of'}
use Rattle.binom_queue.specs.declared.forest.Node.{Node}

-- the pairs of a row
abbrev pub items : {K V : Type 0} → Forest K V → List (K × V)
items Empty = []
items (Of' box pair order child next) = pair ∷ (items child ++ items next)

-- the pairs of a root's own tree
abbrev pub tree_items : {K V : Type 0} → Node K V → List (K × V)
tree_items root = root.pair ∷ items root.child

-- the number of trees of a row
abbrev pub trees : {K V : Type 0} → Forest K V → ℕ
trees Empty = 0
trees (Of' box pair order child next) = trees next + 1

-- the number of nodes on the longest walk that goes to a child or to the next tree at each step
abbrev pub depth : {K V : Type 0} → Forest K V → ℕ
depth Empty = 0
depth (Of' box pair order child next) = max (depth child) (depth next) + 1

-- the pair at the root of this order
abbrev pub root_of : {K V : Type 0} → ℕ → Forest K V → Option (K × V)
root_of n Empty = None
root_of n (Of' box pair order child next) = if nat_eq order n then Some pair else root_of n next

-- the trees below a root of order n with this key: one of each smaller order, the greatest first,
-- with no key below the root's
abbrev pub AreChildren : {K V : Type 0} → (K → K → Ordering) → K → ℕ → Forest K V → Type 0
AreChildren cmp key zero Empty = Unit {0}
AreChildren cmp key zero (Of' box pair order child next) = ⊥
AreChildren cmp key (suc n) Empty = ⊥
AreChildren cmp key (suc n) (Of' box pair order child next) =
    (order ≡ n) × (cmp key pair.0 ≢ Greater) × AreChildren cmp pair.0 n child × AreChildren cmp key n next

-- a root with its trees below it, and no tree after it
pub record IsTree {K V : Type 0} (cmp : K → K → Ordering) (root : Node K V) : Type 0 where
  pub children : AreChildren cmp root.pair.0 root.order root.child
  pub alone : root.next ≡ Empty

-- trees of rising orders, the first of which is at least n
abbrev pub AreRoots : {K V : Type 0} → (K → K → Ordering) → ℕ → Forest K V → Type 0
AreRoots cmp n Empty = Unit {0}
AreRoots cmp n (Of' box pair order child next) = (n ≤ order) × AreChildren cmp pair.0 order child × AreRoots cmp (suc order) next

-- One tree is taken out of a row; `new` is the rest of the row. The trees below its root fit there
-- with any key that isn't above the root's own.
pub record IsTakenOut {K V : Type 0} (cmp : K → K → Ordering) (old new : Forest K V) (root : Node K V) : Type 0 where
  pub below : (key : K) × AreChildren cmp key root.order root.child
  pub alone : root.next ≡ Empty
  pub rest : (n : ℕ) → AreRoots cmp n old → AreRoots cmp n new
  pub pairs : IsPermutation (items old) (tree_items root ++ items new)

-- The pair with the key is exchanged with the root's pair, or is already there. The pairs are the
-- same, and the trees below the root fit where they were.
pub record IsRaised {K V : Type 0} (cmp : K → K → Ordering) (key : K) (above : K × V) (below : Forest K V) (raised : K × V) (left : Forest K V) : Type 0 where
  pub has_key : cmp raised.0 key ≡ Equal
  pub fits : (n : ℕ) → AreChildren cmp above.0 n below → AreChildren cmp above.0 n left
  pub pairs : IsPermutation (above ∷ items below) (raised ∷ items left)
