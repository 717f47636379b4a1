-- No key is below the one of its root.
use Rattle.std.proofs.Common.{◌≡◌, ◌≢◌, ℕ, zero, suc, List, ◌∷◌, ◌++◌, refl, Ordering, Less, Equal, Greater}
use Rattle.std.specs.Cmp.{IsTotalOrder}
use Rattle.std.specs.List.{AllByRecursion}
use Rattle.std.proofs.lemmas.Cmp.{tied_itself}
use Rattle.base_lists.proofs.Members.{all_weaker, all_append}
use Rattle.base_lists.proofs.Orders.{greater_from_less, less_from_greater, less_then_tied}
use Rattle.pend_queue.specs.Pairs.{KeyIsAbsent}
use Rattle.binom_queue.specs.declared.forest.Forest.{Forest}
use Rattle.binom_queue.specs.declared.forest.Forest.TheVariants.{Empty, Of'}
use Rattle.binom_queue.specs.Trees.{items, AreChildren}

module _ {K : Type 0} {cmp : K → K → Ordering} (order : IsTotalOrder cmp) where
  pub not_above_itself : (a : K) → cmp a a ≢ Greater
  not_above_itself a above = let tied : cmp a a ≡ Equal = tied_itself order a in cc

  pub not_above_trans : (a b c : K) → cmp a b ≢ Greater → cmp b c ≢ Greater → cmp a c ≢ Greater
  not_above_trans a b c first second above = at (cmp a b) refl
    where
      below : cmp c a ≡ Less
      below = less_from_greater order a c above

      at : (o : Ordering) → cmp a b ≡ o → ⊥
      at Less is = second (greater_from_less order c b (order.trans c a b below is))
      at Equal is = second (greater_from_less order c b (less_then_tied order c a b below is))
      at Greater is = first is

  pub not_above_from_greater : (a b : K) → cmp a b ≡ Greater → cmp b a ≢ Greater
  not_above_from_greater a b above below = let less : cmp b a ≡ Less = less_from_greater order a b above in cc

module _ {K V : Type 0} {cmp : K → K → Ordering} (order : IsTotalOrder cmp) where
  -- what is above no key of a list is so by way of another key
  pub floor_through : (a b : K) (ps : List (K × V)) → cmp a b ≢ Greater → AllByRecursion (λ p. cmp b p.0 ≢ Greater) ps
      → AllByRecursion (λ p. cmp a p.0 ≢ Greater) ps
  floor_through a b ps first all = all_weaker (λ p. cmp b p.0 ≢ Greater) (λ p. cmp a p.0 ≢ Greater)
      (λ p second. not_above_trans order a b p.0 first second) ps all

  pub floor_of_children : (key : K) (n : ℕ) (below : Forest K V) → AreChildren cmp key n below → AllByRecursion (λ p. cmp key p.0 ≢ Greater) (items below)
  floor_of_children key zero Empty are = tt
  floor_of_children key zero (Of' box pair own child next) are = absurd are
  floor_of_children key (suc n) Empty are = absurd are
  floor_of_children key (suc n) (Of' box pair own child next) are = (
    are.1,
    all_append (λ p. cmp key p.0 ≢ Greater) (items child) (items next)
        (floor_through key pair.0 (items child) are.1 (floor_of_children pair.0 n child are.2)) (floor_of_children key n next are.3),
  )

  -- the key of a tree's root, or one that isn't above it, and the rest of the row
  pub floor_of_roots : (key : K) (pair : K × V) (n : ℕ) (child next : Forest K V) → cmp key pair.0 ≢ Greater → AreChildren cmp pair.0 n child
      → AllByRecursion (λ p. cmp key p.0 ≢ Greater) (items next) → AllByRecursion (λ p. cmp key p.0 ≢ Greater) (pair ∷ (items child ++ items next))
  floor_of_roots key pair n child next first are rest = (
    first,
    all_append (λ p. cmp key p.0 ≢ Greater) (items child) (items next)
        (floor_through key pair.0 (items child) first (floor_of_children pair.0 n child are)) rest,
  )

  -- a key that is below a floor is absent above it
  pub absent_under_floor : (floor key : K) (ps : List (K × V)) → cmp key floor ≡ Less → AllByRecursion (λ p. cmp floor p.0 ≢ Greater) ps → KeyIsAbsent cmp key ps
  absent_under_floor floor key ps below all = all_weaker (λ p. cmp floor p.0 ≢ Greater) (λ p. cmp p.0 key ≢ Equal)
      (λ p first tied. not_above_trans order floor p.0 key first (λ above. let no : cmp p.0 key ≡ Equal = tied in cc)
      (greater_from_less order key floor below)) ps all

  -- children of a root fit below a key that isn't above the root's
  pub children_through : (a b : K) → cmp a b ≢ Greater → (n : ℕ) (below : Forest K V) → AreChildren cmp b n below → AreChildren cmp a n below
  children_through a b first zero Empty are = tt
  children_through a b first zero (Of' box pair own child next) are = absurd are
  children_through a b first (suc n) Empty are = absurd are
  children_through a b first (suc n) (Of' box pair own child next) are =
      (are.0, not_above_trans order a b pair.0 first are.1, are.2, children_through a b first n next are.3)
