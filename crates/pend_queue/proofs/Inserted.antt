-- A list with one pair more.
use Rattle.std.proofs.Common.{◌≡◌, ◌≢◌, ◌⊎◌, ◌+◌, true, false, not, List, ◌∷◌, ◌++◌, length, filter, Contains, IsPermutation}
use Rattle.std.proofs.Common.{is_lt, is_gt, refl, sym, ap, subst, ◌∙◌, inl, inr, Ordering, Less, Equal, Greater, arith}
use Rattle.std.specs.Cmp.{IsTotalOrder}
use Rattle.std.specs.List.{AllByRecursion}
use Rattle.std.proofs.lemmas.List.{append-nil}
use Rattle.std.proofs.lemmas.List.Elements.{filter-append}
use Rattle.std.proofs.lemmas.List.Sorted.{Contains-permutation, IsPermutation-sym, IsPermutation-trans, IsPermutation-cons}
use Rattle.std.proofs.lemmas.List.Sorted.{IsPermutation-middle, IsPermutation-filter_both, length_permutation}
use Rattle.pend_queue.specs.Pairs.{IsAscending, KeyIsAbsent, inserted}
use Rattle.base_lists.proofs.Orders.{less_from_greater}
use Rattle.base_lists.proofs.Members.{Contains-head, Contains-tail, Contains-cases, Contains-filter, each_from_members, each_at_member}
use Rattle.base_lists.proofs.Members.{all_filter, all_append, filter_all, filter_none, filter_alike}
use Rattle.pend_queue.proofs.Ascending.{IsAscending-filter, IsAscending-append, absent_at_member}

-- what a test of an order says
less_from_test : (o : Ordering) → is_lt o ≡ true → o ≡ Less
less_from_test Less passes = refl
less_from_test Equal passes = cc
less_from_test Greater passes = cc

greater_from_test : (o : Ordering) → is_gt o ≡ true → o ≡ Greater
greater_from_test Less passes = cc
greater_from_test Equal passes = cc
greater_from_test Greater passes = refl

-- apart from ties, what isn't below is above
one_or_other : (o : Ordering) → o ≢ Equal → is_gt o ≡ not (is_lt o)
one_or_other Less differs = refl
one_or_other Equal differs = absurd (differs refl)
one_or_other Greater differs = refl

module _ {K V : Type 0} (cmp : K → K → Ordering) where
  -- the old pairs and the new one
  pub IsPermutation-inserted : (new : K × V) (ps : List (K × V)) → KeyIsAbsent cmp new.0 ps → IsPermutation (new ∷ ps) (inserted cmp new ps)
  IsPermutation-inserted new ps absent =
      let is_below = λ (p : K × V). is_lt (cmp p.0 new.0) in
      let isn't_below = λ (p : K × V). not (is_lt (cmp p.0 new.0)) in
      let is_above = λ (p : K × V). is_gt (cmp p.0 new.0) in
      let above : filter is_above ps ≡ filter isn't_below ps =
      filter_alike is_above isn't_below ps (each_from_members (λ p. is_above p ≡ isn't_below p) ps
      (λ p among. one_or_other (cmp p.0 new.0) (absent_at_member cmp new.0 ps p absent among))) in
      let both : IsPermutation ps (filter is_below ps ++ filter isn't_below ps) = IsPermutation-filter_both is_below isn't_below (λ _. refl) ps in
      let parts : IsPermutation ps (filter is_below ps ++ filter is_above ps) =
      subst (λ (l : List (K × V)). IsPermutation ps (filter is_below ps ++ l)) (sym above) both in
      IsPermutation-trans _ _ _ (IsPermutation-cons new _ _ parts) (IsPermutation-sym _ _ (IsPermutation-middle (filter is_below ps) new (filter is_above ps)))

  pub length-inserted : (new : K × V) (ps : List (K × V)) → KeyIsAbsent cmp new.0 ps → length (inserted cmp new ps) ≡ length ps + 1
  length-inserted new ps absent =
      let moved : length (inserted cmp new ps) ≡ length (new ∷ ps) = length_permutation _ _ (IsPermutation-inserted new ps absent) in
      omega arith

  pub Contains-inserted : (new : K × V) (ps : List (K × V)) (p : K × V) → KeyIsAbsent cmp new.0 ps → Contains (inserted cmp new ps) p → (new ≡ p) ⊎ Contains ps p
  Contains-inserted new ps p absent among =
      Contains-cases new ps p (Contains-permutation _ _ p (IsPermutation-sym _ _ (IsPermutation-inserted new ps absent)) among)

  pub Contains-inserted_new : (new : K × V) (ps : List (K × V)) → KeyIsAbsent cmp new.0 ps → Contains (inserted cmp new ps) new
  Contains-inserted_new new ps absent = Contains-permutation _ _ new (IsPermutation-inserted new ps absent) (Contains-head new ps)

  pub Contains-inserted_old : (new : K × V) (ps : List (K × V)) (p : K × V) → KeyIsAbsent cmp new.0 ps → Contains ps p → Contains (inserted cmp new ps) p
  Contains-inserted_old new ps p absent among = Contains-permutation _ _ p (IsPermutation-inserted new ps absent) (Contains-tail new ps p among)

  -- what holds of the new pair and of each old one
  pub AllByRecursion-inserted : (P : K × V → Type 0) (new : K × V) (ps : List (K × V)) → P new → AllByRecursion P ps → AllByRecursion P (inserted cmp new ps)
  AllByRecursion-inserted P new ps here each =
      let is_below = λ (p : K × V). is_lt (cmp p.0 new.0) in
      let is_above = λ (p : K × V). is_gt (cmp p.0 new.0) in
      all_append P (filter is_below ps) (new ∷ filter is_above ps) (all_filter P is_below ps each) (here, all_filter P is_above ps each)

  -- between the smaller keys and the greater ones
  pub inserted_between : (new : K × V) (ps qs : List (K × V)) → AllByRecursion (λ p. cmp p.0 new.0 ≡ Less) ps → AllByRecursion (λ q. cmp q.0 new.0 ≡ Greater) qs
      → inserted cmp new (ps ++ qs) ≡ ps ++ new ∷ qs
  inserted_between new ps qs below above =
      let is_below = λ (p : K × V). is_lt (cmp p.0 new.0) in
      let is_above = λ (p : K × V). is_gt (cmp p.0 new.0) in
      let first : filter is_below (ps ++ qs) ≡ ps =
      filter-append is_below ps qs ∙ ap (λ (l : List (K × V)). l ++ filter is_below qs)
      (filter_all is_below ps (each_from_test (λ o. is_lt o ≡ true) Less refl ps below))
      ∙ ap (λ (l : List (K × V)). ps ++ l) (filter_none is_below qs (each_from_test (λ o. is_lt o ≡ false) Greater refl qs above)) ∙ append-nil ps in
      let second : filter is_above (ps ++ qs) ≡ qs =
      filter-append is_above ps qs ∙ ap (λ (l : List (K × V)). l ++ filter is_above qs)
      (filter_none is_above ps (each_from_test (λ o. is_gt o ≡ false) Less refl ps below))
      ∙ filter_all is_above qs (each_from_test (λ o. is_gt o ≡ true) Greater refl qs above) in
      ap (λ (l : List (K × V)). l ++ new ∷ filter is_above (ps ++ qs)) first ∙ ap (λ (l : List (K × V)). ps ++ new ∷ l) second
    where
      each_from_test : (P : Ordering → Type 0) (o : Ordering) → P o → (l : List (K × V)) → AllByRecursion (λ p. cmp p.0 new.0 ≡ o) l
          → AllByRecursion (λ p. P (cmp p.0 new.0)) l
      each_from_test P o at l each = each_from_members (λ p. P (cmp p.0 new.0)) l
          (λ p among. subst P (sym (each_at_member (λ p. cmp p.0 new.0 ≡ o) l p each among)) at)

module _ {K V : Type 0} {cmp : K → K → Ordering} (order : IsTotalOrder cmp) where
  pub IsAscending-inserted : (new : K × V) (ps : List (K × V)) → IsAscending cmp ps → IsAscending cmp (inserted cmp new ps)
  IsAscending-inserted new ps up =
      let is_below = λ (p : K × V). is_lt (cmp p.0 new.0) in
      let is_above = λ (p : K × V). is_gt (cmp p.0 new.0) in
      IsAscending-append cmp (filter is_below ps) (new ∷ filter is_above ps)
      (IsAscending-filter cmp is_below ps up)
      (each_from_members (λ q. cmp new.0 q.0 ≡ Less) (filter is_above ps) above, IsAscending-filter cmp is_above ps up)
      (λ p q first second. elim (Contains-cases new (filter is_above ps) q second) [
        | inl same ↦ subst (λ (z : K × V). cmp p.0 z.0 ≡ Less) same (below p first)
        | inr later ↦ order.trans p.0 new.0 q.0 (below p first) (above q later)
      ])
    where
      below : (p : K × V) → Contains (filter (λ p. is_lt (cmp p.0 new.0)) ps) p → cmp p.0 new.0 ≡ Less
      below p among = less_from_test (cmp p.0 new.0) (Contains-filter (λ (p : K × V). is_lt (cmp p.0 new.0)) ps p among).1

      above : (q : K × V) → Contains (filter (λ p. is_gt (cmp p.0 new.0)) ps) q → cmp new.0 q.0 ≡ Less
      above q among = less_from_greater order q.0 new.0
          (greater_from_test (cmp q.0 new.0) (Contains-filter (λ (p : K × V). is_gt (cmp p.0 new.0)) ps q among).1)
