-- Binomial queues: their pairs by key, and the invariant of their type.
use Rattle.std.specs.Prelude.{◌≡◌, ℕ, ◌≤◌, List, [], length}
use Rattle.std.specs.declared.cmp.Ordering.{Ordering}
use Rattle.pend_queue.specs.Pairs.{merged}
use Rattle.binom_queue.specs.declared.forest.Forest.{Forest}
use Rattle.binom_queue.specs.Trees.{items, trees, depth, AreRoots}

-- what contracts see of a binomial queue
pub record Binomial (K V : Type 0) : Type 0 where
  -- its pairs by rising key, and the most that it may hold
  pub pairs : List (K × V)
  pub room : ℕ
  -- the number of times that it has linked two trees
  pub links : ℕ
  -- the number of its trees, and the number of nodes on the longest walk through them
  pub trees : ℕ
  pub depth : ℕ

-- the pairs by rising key; of several pairs with one key only the first stays
abbrev pub by_key : {K V : Type 0} → (K → K → Ordering) → List (K × V) → List (K × V)
by_key cmp ps = merged cmp [] ps

-- what contracts see of trees with this room and number of links
abbrev pub seen : {K V : Type 0} → (K → K → Ordering) → Forest K V → ℕ → ℕ → Binomial K V
seen cmp roots room links = record { pairs = by_key cmp (items roots); room = room; links = links; trees = trees roots; depth = depth roots }

-- Binomial heaps of rising orders. No two pairs have the same key. Their number is `len`, and there
-- is room for it.
pub record IsBinomial {K V : Type 0} (cmp : K → K → Ordering) (roots : Forest K V) (len room : ℕ) : Type 0 where
  pub heaps : AreRoots cmp 0 roots
  pub distinct : length (by_key cmp (items roots)) ≡ length (items roots)
  pub counted : len ≡ length (items roots)
  pub fits : len ≤ room
