-- A list with the pairs of another one.
use Rattle.std.proofs.Common.{◌≡◌, ◌≢◌, ◌⊎◌, ◌+◌, List, [], ◌∷◌, ◌++◌, length, Contains}
use Rattle.std.proofs.Common.{IsPermutation, sym, subst, ◌∙◌, inl, inr, Ordering, Less, Equal, length-append}
use Rattle.std.specs.Cmp.{IsTotalOrder}
use Rattle.std.specs.List.{AllByRecursion}
use Rattle.std.proofs.lemmas.List.{append-nil}
use Rattle.std.proofs.lemmas.List.Elements.{Contains-append_left, Contains-append_right, Contains-append_cases}
use Rattle.std.proofs.lemmas.List.Sorted.{Contains-permutation, IsPermutation-refl, IsPermutation-sym, IsPermutation-trans}
use Rattle.std.proofs.lemmas.List.Sorted.{IsPermutation-cons, IsPermutation-middle, IsPermutation-append_left, length_permutation}
use Rattle.pend_queue.specs.Pairs.{IsAscending, KeyIsAbsent, HaveNoCommonKey, inserted, merged}
use Rattle.base_lists.proofs.Members.{each_at_member, Contains-tail}
use Rattle.pend_queue.proofs.Ascending.{absent-append, absent-IsPermutation, absent_from_rest, apart_from_members, apart_at_members, same_from_permutation}
use Rattle.pend_queue.proofs.Inserted.{AllByRecursion-inserted, IsAscending-inserted, IsPermutation-inserted, Contains-inserted}

module _ {K V : Type 0} (cmp : K → K → Ordering) where
  -- what holds of each pair of both
  pub AllByRecursion-merged : (P : K × V → Type 0) (ps qs : List (K × V)) → AllByRecursion P ps → AllByRecursion P qs → AllByRecursion P (merged cmp ps qs)
  AllByRecursion-merged P ps [] first second = first
  AllByRecursion-merged P ps (q ∷ qs) first second = AllByRecursion-inserted cmp P q (merged cmp ps qs) second.0 (AllByRecursion-merged P ps qs first second.1)

module _ {K V : Type 0} {cmp : K → K → Ordering} (order : IsTotalOrder cmp) where
  pub IsAscending-merged : (ps qs : List (K × V)) → IsAscending cmp ps → IsAscending cmp (merged cmp ps qs)
  IsAscending-merged ps [] up = up
  IsAscending-merged ps (q ∷ qs) up = IsAscending-inserted order q (merged cmp ps qs) (IsAscending-merged ps qs up)

  -- the pairs of both
  pub IsPermutation-merged : (ps qs : List (K × V)) → IsAscending cmp qs → HaveNoCommonKey cmp ps qs → IsPermutation (ps ++ qs) (merged cmp ps qs)
  IsPermutation-merged ps [] over apart = subst (λ (l : List (K × V)). IsPermutation l ps) (sym (append-nil ps)) (IsPermutation-refl ps)
  IsPermutation-merged ps (q ∷ qs) over apart =
      let before : IsPermutation (ps ++ qs) (merged cmp ps qs) = IsPermutation-merged ps qs over.1 apart.1 in
      let absent : KeyIsAbsent cmp q.0 (merged cmp ps qs) =
      absent-IsPermutation cmp q.0 _ _ before (absent-append cmp q.0 ps qs apart.0 (absent_from_rest order q qs over)) in
      IsPermutation-trans _ _ _ (IsPermutation-middle ps q qs)
      (IsPermutation-trans _ _ _ (IsPermutation-cons q _ _ before) (IsPermutation-inserted cmp q (merged cmp ps qs) absent))

  pub length-merged : (ps qs : List (K × V)) → IsAscending cmp qs → HaveNoCommonKey cmp ps qs → length (merged cmp ps qs) ≡ length ps + length qs
  length-merged ps qs over apart = length_permutation _ _ (IsPermutation-merged ps qs over apart) ∙ length-append ps qs

  pub Contains-merged : (ps qs : List (K × V)) (p : K × V) → IsAscending cmp qs → HaveNoCommonKey cmp ps qs → Contains (merged cmp ps qs) p
      → Contains ps p ⊎ Contains qs p
  Contains-merged ps qs p over apart among =
      Contains-append_cases ps qs p (Contains-permutation _ _ p (IsPermutation-sym _ _ (IsPermutation-merged ps qs over apart)) among)

  pub Contains-merged_left : (ps qs : List (K × V)) (p : K × V) → IsAscending cmp qs → HaveNoCommonKey cmp ps qs → Contains ps p → Contains (merged cmp ps qs) p
  Contains-merged_left ps qs p over apart among = Contains-permutation _ _ p (IsPermutation-merged ps qs over apart) (Contains-append_left ps qs p among)

  pub Contains-merged_right : (ps qs : List (K × V)) (p : K × V) → IsAscending cmp qs → HaveNoCommonKey cmp ps qs → Contains qs p
      → Contains (merged cmp ps qs) p
  Contains-merged_right ps qs p over apart among = Contains-permutation _ _ p (IsPermutation-merged ps qs over apart) (Contains-append_right ps qs p among)

  -- one pair of the second list moved over
  pub apart-inserted : (ps : List (K × V)) (q : K × V) (qs : List (K × V)) → IsAscending cmp (q ∷ qs) → HaveNoCommonKey cmp ps (q ∷ qs)
      → HaveNoCommonKey cmp (inserted cmp q ps) qs
  apart-inserted ps q qs over apart = apart_from_members cmp (inserted cmp q ps) qs (λ x y first second. elim (Contains-inserted cmp q ps x apart.0 first) [
    | inl same ↦ subst (λ (z : K × V). cmp z.0 y.0 ≢ Equal) same
        (λ tied. let below : cmp q.0 y.0 ≡ Less = each_at_member (λ y. cmp q.0 y.0 ≡ Less) qs y over.0 second in cc)
    | inr old ↦ apart_at_members cmp ps (q ∷ qs) x y apart old (Contains-tail q qs y second)
  ])

  pub merged-inserted : (ps : List (K × V)) (q : K × V) (qs : List (K × V)) → IsAscending cmp ps → IsAscending cmp (q ∷ qs) → HaveNoCommonKey cmp ps (q ∷ qs)
      → merged cmp (inserted cmp q ps) qs ≡ merged cmp ps (q ∷ qs)
  merged-inserted ps q qs up over apart =
      let above : IsAscending cmp (inserted cmp q ps) = IsAscending-inserted order q ps up in
      let front : IsPermutation (ps ++ q ∷ qs) (inserted cmp q ps ++ qs) =
      IsPermutation-trans _ _ _ (IsPermutation-middle ps q qs) (IsPermutation-append_left qs _ _ (IsPermutation-inserted cmp q ps apart.0)) in
      same_from_permutation order _ _ (IsAscending-merged (inserted cmp q ps) qs above) (IsAscending-merged ps (q ∷ qs) up)
      (IsPermutation-trans _ _ _ (IsPermutation-sym _ _ (IsPermutation-merged (inserted cmp q ps) qs over.1 (apart-inserted ps q qs over apart)))
      (IsPermutation-trans _ _ _ (IsPermutation-sym _ _ front) (IsPermutation-merged ps (q ∷ qs) over apart)))
