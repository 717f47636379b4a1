-- Pairs by falling key, as the list queue keeps them: the reverse of the list that contracts see.
use Rattle.std.proofs.Common.{◌≡◌, ℕ, zero, suc, ◌+◌, ◌<◌, ◌≤◌, List, [], ◌∷◌, ◌++◌, length, take, drop}
use Rattle.std.proofs.Common.{get_or, reverse, insert, remove, Contains, Result, Ok, Err, IfOk, IfErr, Some, refl, sym}
use Rattle.std.proofs.Common.{ap, subst, ◌∙◌, inl, inr, Ordering, Less, Equal, Greater, arith, length-take, length-drop, take-append-drop, drop-cons}
use Rattle.std.specs.Cmp.{IsTotalOrder}
use Rattle.std.specs.List.Sorted.{IsNonDecreasingBy, IsSearchInRange, IsBinarySearchResult}
use Rattle.std.specs.Ordering.{ordering_index}
use Rattle.std.proofs.lemmas.Cmp.{tied_back}
use Rattle.std.proofs.lemmas.Bool.{cases_eq}
use Rattle.std.proofs.lemmas.List.{reverse-append, get_or-take, get_or-drop}
use Rattle.std.proofs.lemmas.List.Elements.{Contains-get_or}
use Rattle.std.proofs.lemmas.List.Sorted.{IsPermutation-reverse, Contains-permutation}
use Rattle.pend_queue.specs.Pairs.{IsAscending, KeyIsAbsent, inserted, pair_at, pairs_without}
use Rattle.pend_queue.specs.Ranks.{KeyIsAt, IsGapFor}
use Rattle.base_lists.proofs.Orders.{greater_from_less, less_from_greater, less_then_tied}
use Rattle.base_lists.proofs.Members.{Contains-head, each_at_member}
use Rattle.base_lists.proofs.Reversed.{reverse-cons, reverse_around, reverse_parts, each_in_reverse}
use Rattle.pend_queue.proofs.Ascending.{ascending_parts, absent_from_members, absent-append, absent_at_member, pair_at-member}
use Rattle.pend_queue.proofs.Inserted.{inserted_between}
use Rattle.pend_queue.proofs.Without.{without_between}

module _ {K : Type 0} {cmp : K → K → Ordering} (order : IsTotalOrder cmp) where
  -- what a key is compared with rises along falling keys
  compared_step : (key a b : K) → cmp b a ≡ Less → (o : Ordering) → cmp key a ≡ o → ordering_index o ≤ ordering_index (cmp key b)
  compared_step key a b below Less is = omega arith
  compared_step key a b below Equal is =
      let above : cmp key b ≡ Greater = greater_from_less order b key (less_then_tied order b a key below (tied_back order key a is)) in
      rw above (omega arith)
  compared_step key a b below Greater is =
      let above : cmp key b ≡ Greater = greater_from_less order b key (order.trans b a key below (less_from_greater order key a is)) in
      rw above (omega arith)

module _ {K V : Type 0} {cmp : K → K → Ordering} (order : IsTotalOrder cmp) where
  -- a later key is below an earlier one
  falls : (xs : List (K × V)) → IsAscending cmp (reverse xs) → (i j : ℕ) (d : K × V) → i < j → j < length xs → cmp (get_or xs j d).0 (get_or xs i d).0 ≡ Less
  falls [] up i j d before within = absurd (omega arith)
  falls (x ∷ xs) up i zero d before within = absurd (omega arith)
  falls (x ∷ xs) up zero (suc j) d before within =
      let parts = ascending_parts cmp (reverse xs) (x ∷ []) (subst (IsAscending cmp) (reverse-cons x xs) up) in
      parts.across (get_or xs j d) x (Contains-permutation xs (reverse xs) _ (IsPermutation-reverse xs) (Contains-get_or xs j d (omega arith)))
      (Contains-head x [])
  falls (x ∷ xs) up (suc i) (suc j) d before within =
      let parts = ascending_parts cmp (reverse xs) (x ∷ []) (subst (IsAscending cmp) (reverse-cons x xs) up) in
      falls xs parts.first i j d (omega arith) (omega arith)

  module _ (xs : List (K × V)) (up : IsAscending cmp (reverse xs)) (key : K) where
    comparisons_rise : IsNonDecreasingBy (λ p. ordering_index (cmp key p.0)) xs
    comparisons_rise i j d le within = elim (cases_eq i j) [
      | inl same ↦ subst (λ (n : ℕ). ordering_index (cmp key (get_or xs i d).0) ≤ ordering_index (cmp key (get_or xs n d).0)) same (omega arith)
      | inr differs ↦ compared_step order key (get_or xs i d).0 (get_or xs j d).0 (falls xs up i j d (omega arith) within) (cmp key (get_or xs i d).0) refl
    ]

    -- a binary search by key ends at the key, or at the gap for it
    pub searched : (r : Result ℕ ℕ) → IsSearchInRange r (length xs) → IsBinarySearchResult (λ p. cmp key p.0) xs r
        → record { found : IfOk r (KeyIsAt cmp key xs); absent : IfErr r (IsGapFor cmp key xs) }
    searched (Ok at) in_range tied = record {
      found = record { in_range = in_range; has_key = λ d. tied_back order key (get_or xs at d).0 (tied d) };
      absent = tt;
    }
    searched (Err at) in_range parted = record {
      found = tt;
      absent = record {
        in_range = in_range;
        greater_before = λ k d within.
            let long = length-take at xs in
            let below : k < at = omega arith in
            subst (λ (p : K × V). cmp p.0 key ≡ Greater) (sym (get_or-take at xs k d below))
            (greater_from_less order key (get_or xs k d).0 ((parted comparisons_rise).0 k d (omega arith) below));
        smaller_after = λ k d within.
            let long = length-drop at xs in
            subst (λ (p : K × V). cmp p.0 key ≡ Less) (sym (get_or-drop at xs k d))
            (less_from_greater order key (get_or xs (at + k) d).0 ((parted comparisons_rise).1 (at + k) d (omega arith) (omega arith)));
      };
    }

  -- an insertion into the gap
  pub reverse-insert : (xs : List (K × V)) (new : K × V) (i : ℕ) → IsGapFor cmp new.0 xs i → reverse (insert xs i new) ≡ inserted cmp new (reverse xs)
  reverse-insert xs new i gap =
      reverse_around (take i xs) (drop i xs) new
      ∙ sym (inserted_between cmp new (reverse (drop i xs)) (reverse (take i xs)) (each_in_reverse (λ p. cmp p.0 new.0 ≡ Less) (drop i xs) gap.smaller_after)
      (each_in_reverse (λ p. cmp p.0 new.0 ≡ Greater) (take i xs) gap.greater_before))
      ∙ ap (inserted cmp new) (sym (reverse_parts i xs))

  -- a key that has a gap is absent
  pub absent_in_gap : (xs : List (K × V)) (key : K) (i : ℕ) → IsGapFor cmp key xs i → KeyIsAbsent cmp key (reverse xs)
  absent_in_gap xs key i gap = subst (KeyIsAbsent cmp key) (sym (reverse_parts i xs)) (absent-append cmp key (reverse (drop i xs)) (reverse (take i xs))
      (absent_from_members cmp key _ (λ p among tied. let below : cmp p.0 key ≡ Less =
      each_at_member (λ p. cmp p.0 key ≡ Less) _ p (each_in_reverse (λ p. cmp p.0 key ≡ Less) (drop i xs) gap.smaller_after) among in cc))
      (absent_from_members cmp key _ (λ p among tied. let above : cmp p.0 key ≡ Greater =
      each_at_member (λ p. cmp p.0 key ≡ Greater) _ p (each_in_reverse (λ p. cmp p.0 key ≡ Greater) (take i xs) gap.greater_before) among in cc)))

  -- a key that has a place is not
  module _ (xs : List (K × V)) (key : K) (i : ℕ) (d : K × V) (at : KeyIsAt cmp key xs i) where
    among_reverse : Contains (reverse xs) (get_or xs i d)
    among_reverse = Contains-permutation xs (reverse xs) _ (IsPermutation-reverse xs) (Contains-get_or xs i d at.in_range)

    pub present_at : KeyIsAbsent cmp key (reverse xs) → ⊥
    present_at absent = absent_at_member cmp key (reverse xs) (get_or xs i d) absent among_reverse (at.has_key d)

    pub pair_at-reverse : IsAscending cmp (reverse xs) → pair_at cmp key (reverse xs) ≡ Some (get_or xs i d)
    pair_at-reverse up = pair_at-member order key (reverse xs) (get_or xs i d) up among_reverse (at.has_key d)

    around_place : reverse xs ≡ reverse (drop (suc i) xs) ++ get_or xs i d ∷ reverse (take i xs)
    around_place =
        let cut : drop i xs ≡ get_or xs i d ∷ drop (suc i) xs = drop-cons xs i d at.in_range in
        ap reverse (sym (take-append-drop i xs) ∙ ap (λ (l : List (K × V)). take i xs ++ l) cut) ∙ reverse_around (take i xs) (drop (suc i) xs) (get_or xs i d)

    pub reverse-remove : IsAscending cmp (reverse xs) → reverse (remove xs i) ≡ pairs_without cmp key (reverse xs)
    reverse-remove up =
        reverse-append (take i xs) (drop (suc i) xs)
        ∙ sym (without_between order key (get_or xs i d) (reverse (drop (suc i) xs)) (reverse (take i xs)) (subst (IsAscending cmp) around_place up)
        (at.has_key d))
        ∙ ap (pairs_without cmp key) (sym around_place)
