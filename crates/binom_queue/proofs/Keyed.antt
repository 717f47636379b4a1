-- Pairs put in their places by key: which lists they come to be, and when none is lost.
use Rattle.std.proofs.Common.{◌≡◌, ◌⊎◌, ℕ, suc, ◌+◌, ◌≤◌, cond, List, [], ◌∷◌, length, filter, Contains, IsPermutation, Some, is_lt, is_gt, refl, sym}
use Rattle.std.proofs.Common.{ap, subst, ◌∙◌, inl, inr, Ordering, Less, Equal, Greater, arith, length-append}
use Rattle.std.specs.Cmp.{IsTotalOrder}
use Rattle.std.proofs.lemmas.Cmp.{tied_back}
use Rattle.std.proofs.lemmas.List.Elements.{Contains-append_left, Contains-append_right, Contains-append_cases}
use Rattle.std.proofs.lemmas.List.Sorted.{Contains-permutation, IsPermutation-refl, IsPermutation-sym, IsPermutation-trans, IsPermutation-cons}
use Rattle.std.proofs.lemmas.List.Sorted.{length_permutation}
use Rattle.pend_queue.specs.Pairs.{IsAscending, KeyIsAbsent, inserted, pair_at, pairs_without}
use Rattle.base_lists.proofs.Members.{Contains-head, Contains-tail, Contains-cases, Contains-filter, Contains-filter_kept}
use Rattle.pend_queue.proofs.Ascending.{absent_at_member, same_key_same_pair, same_from_members, pair_at-member}
use Rattle.pend_queue.proofs.Inserted.{IsPermutation-inserted, Contains-inserted, Contains-inserted_old}
use Rattle.pend_queue.proofs.Without.{IsAscending-without, Contains-without, Contains-without_other}
use Rattle.pend_queue.proofs.Merged.{IsAscending-merged}
use Rattle.binom_queue.specs.Queue.{by_key}

module _ {K V : Type 0} (cmp : K → K → Ordering) where
  -- Those below a key and those above it. Where they are all, none has the key.
  module _ (key : K) where
    parts_step : (q : K × V) (ls gs : List (K × V)) (n : ℕ) (o : Ordering) → length ls + length gs ≤ n
        → length (cond (is_lt o) (q ∷ ls) ls) + length (cond (is_gt o) (q ∷ gs) gs) ≤ suc n
    parts_step q ls gs n Less le = omega arith
    parts_step q ls gs n Equal le = omega arith
    parts_step q ls gs n Greater le = omega arith

    parts_fit : (ps : List (K × V)) → length (filter (λ p. is_lt (cmp p.0 key)) ps) + length (filter (λ p. is_gt (cmp p.0 key)) ps) ≤ length ps
    parts_fit [] = omega arith
    parts_fit (q ∷ qs) = parts_step q _ _ (length qs) (cmp q.0 key) (parts_fit qs)

    absent_step : (q : K × V) (qs ls gs : List (K × V)) (o : Ordering) → cmp q.0 key ≡ o → length ls + length gs ≤ length qs
        → (length ls + length gs ≡ length qs → KeyIsAbsent cmp key qs)
        → length (cond (is_lt o) (q ∷ ls) ls) + length (cond (is_gt o) (q ∷ gs) gs) ≡ suc (length qs) → KeyIsAbsent cmp key (q ∷ qs)
    absent_step q qs ls gs Less is le rest all = (λ tied. cc, rest (omega arith))
    absent_step q qs ls gs Equal is le rest all = absurd (omega arith)
    absent_step q qs ls gs Greater is le rest all = (λ tied. cc, rest (omega arith))

    absent_from_parts : (ps : List (K × V)) → length (filter (λ p. is_lt (cmp p.0 key)) ps) + length (filter (λ p. is_gt (cmp p.0 key)) ps) ≡ length
        ps → KeyIsAbsent cmp key ps
    absent_from_parts [] all = tt
    absent_from_parts (q ∷ qs) all = absent_step q qs _ _ (cmp q.0 key) refl (parts_fit qs) (absent_from_parts qs) all

  length-parts : (new : K × V) (ps : List (K × V)) → length (inserted cmp new ps) ≡ suc
      (length (filter (λ p. is_lt (cmp p.0 new.0)) ps) + length (filter (λ p. is_gt (cmp p.0 new.0)) ps))
  length-parts new ps = let all = length-append (filter (λ p. is_lt (cmp p.0 new.0)) ps) (new ∷ filter (λ p. is_gt (cmp p.0 new.0)) ps) in omega arith

  length-inserted_le : (new : K × V) (ps : List (K × V)) → length (inserted cmp new ps) ≤ suc (length ps)
  length-inserted_le new ps = let all = length-parts new ps in let fit = parts_fit new.0 ps in omega arith

  length-by_key_le : (ps : List (K × V)) → length (by_key cmp ps) ≤ length ps
  length-by_key_le [] = omega arith
  length-by_key_le (q ∷ qs) = let rest = length-by_key_le qs in let here = length-inserted_le q (by_key cmp qs) in omega arith

  -- where none is lost, they are the same pairs
  pub IsPermutation-by_key : (ps : List (K × V)) → length (by_key cmp ps) ≡ length ps → IsPermutation ps (by_key cmp ps)
  IsPermutation-by_key [] all = IsPermutation-refl []
  IsPermutation-by_key (q ∷ qs) all =
      let few = length-by_key_le qs in
      let here = length-inserted_le q (by_key cmp qs) in
      let parts = length-parts q (by_key cmp qs) in
      let rest : length (by_key cmp qs) ≡ length qs = omega arith in
      let absent : KeyIsAbsent cmp q.0 (by_key cmp qs) = absent_from_parts q.0 (by_key cmp qs) (omega arith) in
      IsPermutation-trans _ _ _ (IsPermutation-cons q _ _ (IsPermutation-by_key qs rest)) (IsPermutation-inserted cmp q (by_key cmp qs) absent)

  -- who is there
  among_inserted : (new : K × V) (ps : List (K × V)) (p : K × V) → Contains (inserted cmp new ps) p → (new ≡ p) ⊎ Contains ps p
  among_inserted new ps p among = elim (Contains-append_cases (filter (λ p. is_lt (cmp p.0 new.0)) ps) (new ∷ filter (λ p. is_gt (cmp p.0 new.0)) ps) p among) [
    | inl first ↦ inr (Contains-filter (λ (p : K × V). is_lt (cmp p.0 new.0)) ps p first).0
    | inr second ↦ elim (Contains-cases new (filter (λ p. is_gt (cmp p.0 new.0)) ps) p second) [
      | inl same ↦ inl same
      | inr later ↦ inr (Contains-filter (λ (p : K × V). is_gt (cmp p.0 new.0)) ps p later).0
    ]
  ]

  pub among_by_key : (ps : List (K × V)) (p : K × V) → Contains (by_key cmp ps) p → Contains ps p
  among_by_key [] p among = among
  among_by_key (q ∷ qs) p among = elim (among_inserted q (by_key cmp qs) p among) [
    | inl same ↦ subst (Contains (q ∷ qs)) same (Contains-head q qs)
    | inr later ↦ Contains-tail q qs p (among_by_key qs p later)
  ]

  new_is_inserted : (new : K × V) (ps : List (K × V)) → Contains (inserted cmp new ps) new
  new_is_inserted new ps = Contains-append_right (filter (λ p. is_lt (cmp p.0 new.0)) ps) (new ∷ filter (λ p. is_gt (cmp p.0 new.0)) ps) new
      (Contains-head new _)

  old_is_inserted : (new : K × V) (ps : List (K × V)) (p : K × V) (o : Ordering) → cmp p.0 new.0 ≡ o → (o ≡ Equal → new ≡ p) → Contains ps p
      → Contains (inserted cmp new ps) p
  old_is_inserted new ps p Less is same among = Contains-append_left (filter (λ p. is_lt (cmp p.0 new.0)) ps)
      (new ∷ filter (λ p. is_gt (cmp p.0 new.0)) ps) p (Contains-filter_kept (λ (p : K × V). is_lt (cmp p.0 new.0)) ps p among (ap is_lt is))
  old_is_inserted new ps p Equal is same among = subst (Contains (inserted cmp new ps)) (same refl) (new_is_inserted new ps)
  old_is_inserted new ps p Greater is same among = Contains-append_right (filter (λ p. is_lt (cmp p.0 new.0)) ps)
      (new ∷ filter (λ p. is_gt (cmp p.0 new.0)) ps) p
      (Contains-tail new (filter (λ p. is_gt (cmp p.0 new.0)) ps) p (Contains-filter_kept (λ (p : K × V). is_gt (cmp p.0 new.0)) ps p among (ap is_gt is)))

  is_by_key : (ps : List (K × V)) → ((p q : K × V) → Contains ps p → Contains ps q → cmp p.0 q.0 ≡ Equal → q ≡ p) → (p : K × V) → Contains ps p
      → Contains (by_key cmp ps) p
  is_by_key [] same p among = among
  is_by_key (q ∷ qs) same p among = elim (Contains-cases q qs p among) [
    | inl here ↦ subst (Contains (inserted cmp q (by_key cmp qs))) here (new_is_inserted q (by_key cmp qs))
    | inr later ↦
        let rest = is_by_key qs (λ x y first second. same x y (Contains-tail q qs x first) (Contains-tail q qs y second)) p later in
        old_is_inserted q (by_key cmp qs) p (cmp p.0 q.0) refl (λ tied. same p q among (Contains-head q qs) tied) rest
  ]

module _ {K V : Type 0} {cmp : K → K → Ordering} (order : IsTotalOrder cmp) where
  pub IsAscending-by_key : (ps : List (K × V)) → IsAscending cmp (by_key cmp ps)
  IsAscending-by_key ps = IsAscending-merged order [] ps tt

  -- the pairs of an ascending list come to be that list
  pub by_key_is : (ps qs : List (K × V)) → IsPermutation ps qs → IsAscending cmp qs → by_key cmp ps ≡ qs
  by_key_is ps qs moved up =
      let back = IsPermutation-sym ps qs moved in
      same_from_members order (by_key cmp ps) qs (IsAscending-by_key ps) up
      (λ p among. Contains-permutation ps qs p moved (among_by_key cmp ps p among))
      (λ p among. is_by_key cmp ps (λ x y first second tied. same_key_same_pair order qs y x up (Contains-permutation ps qs y moved second)
      (Contains-permutation ps qs x moved first) (tied_back order x.0 y.0 tied)) p (Contains-permutation qs ps p back among))

  pub none_lost : (ps qs : List (K × V)) → IsPermutation ps qs → IsAscending cmp qs → length (by_key cmp ps) ≡ length ps
  none_lost ps qs moved up = ap length (by_key_is ps qs moved up) ∙ length_permutation ps qs moved

  -- an ascending list without one of its pairs
  module _ (ps : List (K × V)) (p : K × V) (qs : List (K × V)) (up : IsAscending cmp ps) (parted : IsPermutation ps (p ∷ qs)) where
    pub part_among : Contains ps p
    part_among = Contains-permutation (p ∷ qs) ps p (IsPermutation-sym ps (p ∷ qs) parted) (Contains-head p qs)

    whole : inserted cmp p (by_key cmp qs) ≡ ps
    whole = by_key_is (p ∷ qs) ps (IsPermutation-sym ps (p ∷ qs) parted) up

    pub none_lost_of_rest : length (by_key cmp qs) ≡ length qs
    none_lost_of_rest =
        let long = ap length whole in
        let as_long = length_permutation ps (p ∷ qs) parted in
        let few = length-by_key_le cmp qs in
        let here = length-inserted_le cmp p (by_key cmp qs) in
        omega arith

    absent_from_others : KeyIsAbsent cmp p.0 (by_key cmp qs)
    absent_from_others =
        let long = ap length whole in
        let as_long = length_permutation ps (p ∷ qs) parted in
        let rest = none_lost_of_rest in
        let parts = length-parts cmp p (by_key cmp qs) in
        absent_from_parts cmp p.0 (by_key cmp qs) (omega arith)

    pub rest_by_key : (key : K) → cmp p.0 key ≡ Equal → by_key cmp qs ≡ pairs_without cmp key ps
    rest_by_key key tied = same_from_members order (by_key cmp qs) (pairs_without cmp key ps) (IsAscending-by_key qs) (IsAscending-without cmp key ps up)
        (λ x among. Contains-without_other cmp key ps x
        (subst (λ (l : List (K × V)). Contains l x) whole (Contains-inserted_old cmp p (by_key cmp qs) x absent_from_others among))
        (λ same. absent_at_member cmp p.0 (by_key cmp qs) x absent_from_others among (order.congr x.0 key p.0 same ∙ tied_back order p.0 key tied)))
        (λ x among. let kept = Contains-without cmp key ps x among in elim
        (Contains-inserted cmp p (by_key cmp qs) x absent_from_others (subst (λ (l : List (K × V)). Contains l x) (sym whole) kept.0)) [
          | inl same ↦ absurd (kept.1 (subst (λ (z : K × V). cmp z.0 key ≡ Equal) same tied))
          | inr later ↦ later
        ])

    pub part_found : (key : K) → cmp p.0 key ≡ Equal → pair_at cmp key ps ≡ Some p
    part_found key tied = pair_at-member order key ps p up part_among tied
