-- What each operation makes of the pairs by key, from what it makes of the pairs of the trees.
use Rattle.std.proofs.Common.{◌≡◌, ◌≢◌, List, [], ◌∷◌, ◌++◌, length, drop, slice_get, IsPermutation, Contains, Some, None, sym, ap, subst, ◌∙◌, inl}
use Rattle.std.proofs.Common.{inr, Ordering, Equal, Greater}
use Rattle.std.specs.Cmp.{IsTotalOrder}
use Rattle.std.specs.List.{AllByRecursion}
use Rattle.std.proofs.lemmas.Cmp.{tied_itself}
use Rattle.std.proofs.lemmas.List.Sorted.{Contains-permutation, IsPermutation-sym, IsPermutation-trans, IsPermutation-cons, IsPermutation-append}
use Rattle.pend_queue.specs.Pairs.{IsAscending, KeyIsAbsent, HaveNoCommonKey, inserted, pair_at, pairs_without, merged}
use Rattle.base_lists.proofs.Members.{Contains-nil, Contains-head, each_at_member}
use Rattle.base_lists.proofs.Orders.{greater_from_less}
use Rattle.pend_queue.proofs.Ascending.{head_or_above, absent-IsPermutation, pair_at-absent}
use Rattle.pend_queue.proofs.Inserted.{IsAscending-inserted, IsPermutation-inserted}
use Rattle.pend_queue.proofs.Without.{without-absent, without-head}
use Rattle.pend_queue.proofs.Merged.{IsAscending-merged, IsPermutation-merged}
use Rattle.binom_queue.specs.declared.forest.Forest.{Forest}
use Rattle.binom_queue.specs.declared.forest.Forest.TheVariants.{Empty}
use Rattle.binom_queue.specs.declared.forest.Node.{Node}
use Rattle.binom_queue.specs.Trees.{items, tree_items}
use Rattle.binom_queue.specs.Queue.{by_key}
use Rattle.binom_queue.proofs.Keyed.{IsPermutation-by_key, IsAscending-by_key, by_key_is, none_lost, none_lost_of_rest, rest_by_key, part_found}

module _ {K V : Type 0} {cmp : K → K → Ordering} (order : IsTotalOrder cmp) where
  -- pairs that are those of an ascending list come to be that list, and none is lost
  pub record Become (ps qs : List (K × V)) : Type 0 where
    pub are : by_key cmp ps ≡ qs
    pub all : length (by_key cmp ps) ≡ length ps

  become : (ps qs : List (K × V)) → IsPermutation ps qs → IsAscending cmp qs → Become ps qs
  become ps qs moved up = record { are = by_key_is order ps qs moved up; all = none_lost order ps qs moved up }

  -- the head of an ascending list is its least pair
  head_is : (whole : List (K × V)) (p : K × V) → IsAscending cmp whole → Contains whole p → ((q : K × V) → Contains whole q → cmp p.0 q.0 ≢ Greater)
      → (rest : List (K × V)) × (whole ≡ p ∷ rest)
  head_is [] p up among least = absurd (Contains-nil p among)
  head_is (q ∷ rest) p up among least = elim (head_or_above cmp q rest p up among) [
    | inl same ↦ (rest, ap (λ (x : K × V). x ∷ rest) same)
    | inr below ↦ absurd (least q (Contains-head q rest) (greater_from_less order q.0 p.0 below))
  ]

  module _ (ps : List (K × V)) (kept : length (by_key cmp ps) ≡ length ps) where
    up : IsAscending cmp (by_key cmp ps)
    up = IsAscending-by_key order ps

    same : IsPermutation ps (by_key cmp ps)
    same = IsPermutation-by_key cmp ps kept

    -- one pair more
    pub pushed : (new : K × V) (qs : List (K × V)) → IsPermutation (new ∷ ps) qs → KeyIsAbsent cmp new.0 (by_key cmp ps)
        → Become qs (inserted cmp new (by_key cmp ps))
    pushed new qs moved absent = become qs _
        (IsPermutation-trans _ _ _ (IsPermutation-sym _ _ moved)
        (IsPermutation-trans _ _ _ (IsPermutation-cons new _ _ same) (IsPermutation-inserted cmp new (by_key cmp ps) absent)))
        (IsAscending-inserted order new (by_key cmp ps) up)

    -- the pairs of another list too
    pub met : (qs rs : List (K × V)) → length (by_key cmp qs) ≡ length qs → IsPermutation (ps ++ qs) rs
        → HaveNoCommonKey cmp (by_key cmp ps) (by_key cmp qs) → Become rs (merged cmp (by_key cmp ps) (by_key cmp qs))
    met qs rs too moved apart = become rs _
        (IsPermutation-trans _ _ _ (IsPermutation-sym _ _ moved)
        (IsPermutation-trans _ _ _ (IsPermutation-append _ _ _ _ same (IsPermutation-by_key cmp qs too))
        (IsPermutation-merged order (by_key cmp ps) (by_key cmp qs) (IsAscending-by_key order qs) apart)))
        (IsAscending-merged order (by_key cmp ps) (by_key cmp qs) up)

    -- no pair of a key
    pub none_found : (key : K) → KeyIsAbsent cmp key ps → (pair_at cmp key (by_key cmp ps) ≡ None) × (pairs_without cmp key (by_key cmp ps) ≡ by_key cmp ps)
    none_found key absent =
        let still : KeyIsAbsent cmp key (by_key cmp ps) = absent-IsPermutation cmp key ps (by_key cmp ps) same absent in
        (pair_at-absent cmp key (by_key cmp ps) still, without-absent cmp key (by_key cmp ps) still)

    -- the least pair
    pub first_is : (p : K × V) → Contains ps p → AllByRecursion (λ q. cmp p.0 q.0 ≢ Greater) ps → (rest : List (K × V)) × (by_key cmp ps ≡ p ∷ rest)
    first_is p among least = head_is (by_key cmp ps) p up (Contains-permutation _ _ p same among)
        (λ q there. each_at_member (λ q. cmp p.0 q.0 ≢ Greater) ps q least (Contains-permutation _ _ q (IsPermutation-sym _ _ same) there))

    -- one pair fewer
    module _ (p : K × V) (qs : List (K × V)) (parted : IsPermutation ps (p ∷ qs)) where
      by_key_parted : IsPermutation (by_key cmp ps) (p ∷ qs)
      by_key_parted = IsPermutation-trans _ _ _ (IsPermutation-sym _ _ same) parted

      pub all_of_rest : length (by_key cmp qs) ≡ length qs
      all_of_rest = none_lost_of_rest order (by_key cmp ps) p qs up by_key_parted

      pub removed : (key : K) → cmp p.0 key ≡ Equal → (pair_at cmp key (by_key cmp ps) ≡ Some p) × (by_key cmp qs ≡ pairs_without cmp key (by_key cmp ps))
      removed key tied = (part_found order (by_key cmp ps) p qs up by_key_parted key tied, rest_by_key order (by_key cmp ps) p qs up by_key_parted key tied)

      pub popped : AllByRecursion (λ q. cmp p.0 q.0 ≢ Greater) ps → (slice_get (by_key cmp ps) 0 ≡ Some p) × (by_key cmp qs ≡ drop 1 (by_key cmp ps))
      popped least =
          let head = first_is p (Contains-permutation _ _ p (IsPermutation-sym _ _ parted) (Contains-head p qs)) least in
          let rest : pairs_without cmp p.0 (by_key cmp ps) ≡ head.0 = ap (pairs_without cmp p.0) head.1 ∙ without-head order p head.0
          (subst (IsAscending cmp) head.1 up) in (
            ap (λ (l : List (K × V)). slice_get l 0) head.1,
            rest_by_key order (by_key cmp ps) p qs up by_key_parted p.0 (tied_itself order p.0) ∙ rest
                ∙ sym (ap (drop 1) head.1),
          )

module _ {K V : Type 0} where
  -- a tree of one node put among others
  pub lone : (root : Node K V) (pair : K × V) (taken roots : Forest K V) (qs : List (K × V)) → root.child ≡ Empty → root.pair ≡ pair → taken ≡ roots
      → IsPermutation (tree_items root ++ items taken) qs → IsPermutation (pair ∷ items roots) qs
  lone root pair taken roots qs none is same moved =
      subst (λ (f : Forest K V). IsPermutation (pair ∷ items f) qs) same
      (subst (λ (p : K × V). IsPermutation (p ∷ items taken) qs) is
      (subst (λ (f : Forest K V). IsPermutation (root.pair ∷ (items f ++ items taken)) qs) none moved))
