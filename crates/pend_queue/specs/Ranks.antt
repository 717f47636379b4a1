-- The index of a key among pairs by falling key, or the index where it would go.
use Rattle.std.specs.Prelude.{◌≡◌, ℕ, ◌<◌, ◌≤◌, List, length, take, drop, All, HoldsAt}
use Rattle.std.specs.declared.cmp.Ordering.{Ordering}
use Rattle.std.specs.declared.cmp.Ordering.TheVariants.{Less, Equal, Greater}

-- the pair at index i has the key
pub record KeyIsAt {K V : Type 0} (cmp : K → K → Ordering) (key : K) (ps : List (K × V)) (i : ℕ) : Type 0 where
  pub in_range : i < length ps
  pub has_key : HoldsAt (λ p. cmp p.0 key ≡ Equal) ps i

-- the key would go to index i: the keys before it are greater, and those from it on are smaller
pub record IsGapFor {K V : Type 0} (cmp : K → K → Ordering) (key : K) (ps : List (K × V)) (i : ℕ) : Type 0 where
  pub in_range : i ≤ length ps
  pub greater_before : All (λ p. cmp p.0 key ≡ Greater) (take i ps)
  pub smaller_after : All (λ p. cmp p.0 key ≡ Less) (drop i ps)
