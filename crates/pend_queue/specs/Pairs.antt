-- A queue as the list of its pairs of a key and a value, by rising key. Keys for which `cmp`
-- answers `Equal` count as the same key.
use Rattle.std.specs.Prelude.{◌≡◌, ◌≢◌, not, List, [], ◌∷◌, ◌++◌, filter, find, Option}
use Rattle.std.specs.List.{AllByRecursion}
use Rattle.std.specs.Ordering.{is_eq, is_lt, is_gt}
use Rattle.std.specs.declared.cmp.Ordering.{Ordering}
use Rattle.std.specs.declared.cmp.Ordering.TheVariants.{Less, Equal}

-- each key is below every key after it, so no two are the same
abbrev pub IsAscending : {K V : Type 0} → (K → K → Ordering) → List (K × V) → Type 0
IsAscending cmp [] = Unit {0}
IsAscending cmp (p ∷ ps) = AllByRecursion (λ q. cmp p.0 q.0 ≡ Less) ps × IsAscending cmp ps

-- no pair has the key
abbrev pub KeyIsAbsent : {K V : Type 0} → (K → K → Ordering) → K → List (K × V) → Type 0
KeyIsAbsent cmp key ps = AllByRecursion (λ p. cmp p.0 key ≢ Equal) ps

-- no key of the second list is in the first
abbrev pub HaveNoCommonKey : {K V : Type 0} → (K → K → Ordering) → List (K × V) → List (K × V) → Type 0
HaveNoCommonKey cmp ps qs = AllByRecursion (λ q. KeyIsAbsent cmp q.0 ps) qs

-- the pairs with smaller keys, the new pair, the pairs with greater keys
abbrev pub inserted : {K V : Type 0} → (K → K → Ordering) → K × V → List (K × V) → List (K × V)
inserted cmp new ps = filter (λ p. is_lt (cmp p.0 new.0)) ps ++ new ∷ filter (λ p. is_gt (cmp p.0 new.0)) ps

-- the pair with the key
abbrev pub pair_at : {K V : Type 0} → (K → K → Ordering) → K → List (K × V) → Option (K × V)
pair_at cmp key ps = find (λ p. is_eq (cmp p.0 key)) ps

-- the pairs with other keys
abbrev pub pairs_without : {K V : Type 0} → (K → K → Ordering) → K → List (K × V) → List (K × V)
pairs_without cmp key ps = filter (λ p. not (is_eq (cmp p.0 key))) ps

-- the first list with each pair of the second one inserted
abbrev pub merged : {K V : Type 0} → (K → K → Ordering) → List (K × V) → List (K × V) → List (K × V)
merged cmp ps [] = ps
merged cmp ps (q ∷ qs) = inserted cmp q (merged cmp ps qs)
