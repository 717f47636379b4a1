-- A list without the pair of a key.
use Rattle.std.proofs.Common.{◌≡◌, ◌≢◌, ◌+◌, true, false, not, cond, List, [], ◌∷◌, ◌++◌, length, filter, Contains}
use Rattle.std.proofs.Common.{IsPermutation, Option, Some, option_to_list, is_eq, refl, ap, subst, ◌∙◌, Ordering, Less, Equal, Greater, arith}
use Rattle.std.specs.Cmp.{IsTotalOrder}
use Rattle.std.specs.List.{AllByRecursion}
use Rattle.std.proofs.lemmas.Cmp.{tied_back, tied_itself}
use Rattle.std.proofs.lemmas.List.Elements.{filter-append}
use Rattle.std.proofs.lemmas.List.Sorted.{IsPermutation-filter_both, length_permutation}
use Rattle.pend_queue.specs.Pairs.{IsAscending, KeyIsAbsent, pair_at, pairs_without}
use Rattle.base_lists.proofs.Orders.{greater_from_less, tied_then_less, less_then_tied}
use Rattle.base_lists.proofs.Members.{Contains-head, Contains-filter, Contains-filter_kept, each_from_members}
use Rattle.base_lists.proofs.Members.{each_at_member, all_filter, filter_all, filter_none}
use Rattle.pend_queue.proofs.Ascending.{IsAscending-filter, ascending_parts, absent_from_members, absent_at_member}

-- what a test for a tie says
untied_from_test : (o : Ordering) → not (is_eq o) ≡ true → o ≢ Equal
untied_from_test o passes tied = let at : not (is_eq o) ≡ false = ap (λ q. not (is_eq q)) tied in cc

test_from_untied : (o : Ordering) → o ≢ Equal → is_eq o ≡ false
test_from_untied Less differs = refl
test_from_untied Equal differs = absurd (differs refl)
test_from_untied Greater differs = refl

module _ {K V : Type 0} (cmp : K → K → Ordering) where
  pub IsAscending-without : (key : K) (ps : List (K × V)) → IsAscending cmp ps → IsAscending cmp (pairs_without cmp key ps)
  IsAscending-without key ps up = IsAscending-filter cmp (λ p. not (is_eq (cmp p.0 key))) ps up

  pub Contains-without : (key : K) (ps : List (K × V)) (p : K × V) → Contains (pairs_without cmp key ps) p → Contains ps p × (cmp p.0 key ≢ Equal)
  Contains-without key ps p among = let kept = Contains-filter (λ (p : K × V). not (is_eq (cmp p.0 key))) ps p among in
      (kept.0, untied_from_test (cmp p.0 key) kept.1)

  pub Contains-without_other : (key : K) (ps : List (K × V)) (p : K × V) → Contains ps p → cmp p.0 key ≢ Equal → Contains (pairs_without cmp key ps) p
  Contains-without_other key ps p among differs =
      Contains-filter_kept (λ (p : K × V). not (is_eq (cmp p.0 key))) ps p among (ap not (test_from_untied (cmp p.0 key) differs))

  pub AllByRecursion-without : (P : K × V → Type 0) (key : K) (ps : List (K × V)) → AllByRecursion P ps → AllByRecursion P (pairs_without cmp key ps)
  AllByRecursion-without P key ps each = all_filter P (λ (p : K × V). not (is_eq (cmp p.0 key))) ps each

  pub absent_from_without : (key : K) (ps : List (K × V)) → KeyIsAbsent cmp key (pairs_without cmp key ps)
  absent_from_without key ps = absent_from_members cmp key (pairs_without cmp key ps) (λ p among. (Contains-without key ps p among).1)

  -- without a key that isn't there, all stay
  pub without-absent : (key : K) (ps : List (K × V)) → KeyIsAbsent cmp key ps → pairs_without cmp key ps ≡ ps
  without-absent key ps absent = filter_all (λ (p : K × V). not (is_eq (cmp p.0 key))) ps
      (each_from_members (λ p. not (is_eq (cmp p.0 key)) ≡ true) ps
      (λ p among. ap not (test_from_untied (cmp p.0 key) (absent_at_member cmp key ps p absent among))))

  tied_none : (key : K) (ps : List (K × V)) → KeyIsAbsent cmp key ps → filter (λ p. is_eq (cmp p.0 key)) ps ≡ []
  tied_none key ps absent = filter_none (λ (p : K × V). is_eq (cmp p.0 key)) ps
      (each_from_members (λ p. is_eq (cmp p.0 key) ≡ false) ps (λ p among. test_from_untied (cmp p.0 key) (absent_at_member cmp key ps p absent among)))

  tied_step : (key : K) (p : K × V) (ps : List (K × V)) (o : Ordering) → (o ≡ Equal → filter (λ p. is_eq (cmp p.0 key)) ps ≡ [])
      → filter (λ p. is_eq (cmp p.0 key)) ps ≡ option_to_list (pair_at cmp key ps)
      → cond (is_eq o) (p ∷ filter (λ p. is_eq (cmp p.0 key)) ps) (filter (λ p. is_eq (cmp p.0 key)) ps)
      ≡ option_to_list (cond (is_eq o) (Some p) (pair_at cmp key ps))
  tied_step key p ps Less alone rest = rest
  tied_step key p ps Equal alone rest = ap (λ l. p ∷ l) (alone refl)
  tied_step key p ps Greater alone rest = rest

module _ {K V : Type 0} {cmp : K → K → Ordering} (order : IsTotalOrder cmp) where
  -- where one pair has the key, none after it has
  pub absent_after : (key : K) (p : K × V) (ps : List (K × V)) → IsAscending cmp (p ∷ ps) → cmp p.0 key ≡ Equal → KeyIsAbsent cmp key ps
  absent_after key p ps up tied = absent_from_members cmp key ps (λ q among same.
      let below : cmp key q.0 ≡ Less = tied_then_less order key p.0 q.0 (tied_back order p.0 key tied)
      (each_at_member (λ q. cmp p.0 q.0 ≡ Less) ps q up.0 among) in
      let above : cmp q.0 key ≡ Greater = greater_from_less order key q.0 below in
      cc)

  -- a key has one pair
  tied-pair_at : (key : K) (ps : List (K × V)) → IsAscending cmp ps → filter (λ p. is_eq (cmp p.0 key)) ps ≡ option_to_list (pair_at cmp key ps)
  tied-pair_at key [] up = refl
  tied-pair_at key (p ∷ ps) up = tied_step cmp key p ps (cmp p.0 key) (λ tied. tied_none cmp key ps (absent_after key p ps up tied)) (tied-pair_at key ps up.1)

  -- the pair that a look-up finds and the rest are the list
  pub IsPermutation-without : (key : K) (ps : List (K × V)) → IsAscending cmp ps → IsPermutation ps (option_to_list (pair_at cmp key ps) ++ pairs_without cmp key ps)
  IsPermutation-without key ps up = subst (λ (l : List (K × V)). IsPermutation ps (l ++ pairs_without cmp key ps)) (tied-pair_at key ps up)
      (IsPermutation-filter_both (λ p. is_eq (cmp p.0 key)) (λ p. not (is_eq (cmp p.0 key))) (λ _. refl) ps)

  pub length-without : (key : K) (ps : List (K × V)) (p : K × V) → IsAscending cmp ps → pair_at cmp key ps ≡ Some p
      → length (pairs_without cmp key ps) + 1 ≡ length ps
  length-without key ps p up found =
      let moved : IsPermutation ps (p ∷ pairs_without cmp key ps) =
      subst (λ (o : Option (K × V)). IsPermutation ps (option_to_list o ++ pairs_without cmp key ps)) found (IsPermutation-without key ps up) in
      let as_long : length (p ∷ pairs_without cmp key ps) ≡ length ps = length_permutation _ _ moved in
      omega arith

  -- without the least key, the rest is left
  pub without-head : (p : K × V) (ps : List (K × V)) → IsAscending cmp (p ∷ ps) → pairs_without cmp p.0 (p ∷ ps) ≡ ps
  without-head p ps up = at (cmp p.0 p.0) (tied_itself order p.0)
    where
      at : (o : Ordering) → o ≡ Equal → cond (not (is_eq o)) (p ∷ pairs_without cmp p.0 ps) (pairs_without cmp p.0 ps) ≡ ps
      at Less tied = cc
      at Equal tied = without-absent cmp p.0 ps (absent_after p.0 p ps up (tied_itself order p.0))
      at Greater tied = cc

  -- the pairs before and after the one that has the key
  pub without_between : (key : K) (p : K × V) (ps qs : List (K × V)) → IsAscending cmp (ps ++ p ∷ qs) → cmp p.0 key ≡ Equal
      → pairs_without cmp key (ps ++ p ∷ qs) ≡ ps ++ qs
  without_between key p ps qs up tied =
      let differs = λ (x : K × V). not (is_eq (cmp x.0 key)) in
      let parts = ascending_parts cmp ps (p ∷ qs) up in
      let before : pairs_without cmp key ps ≡ ps = without-absent cmp key ps (absent_from_members cmp key ps (λ x among same.
      let below : cmp x.0 key ≡ Less = less_then_tied order x.0 p.0 key (parts.across x p among (Contains-head p qs)) tied in cc)) in
      let after : pairs_without cmp key qs ≡ qs = without-absent cmp key qs (absent_after key p qs parts.second tied) in
      filter-append differs ps (p ∷ qs) ∙ ap (λ (l : List (K × V)). l ++ pairs_without cmp key (p ∷ qs)) before
      ∙ ap (λ (l : List (K × V)). ps ++ l) (ap (λ (o : Ordering). cond (not (is_eq o)) (p ∷ pairs_without cmp key qs) (pairs_without cmp key qs)) tied ∙ after)
