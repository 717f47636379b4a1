-- Lists of pairs by rising key: their least pair, look-ups by key, and when two of them are the same list.
use Rattle.std.proofs.Common.{◌≡◌, ◌⊎◌, ◌≢◌, Bool, true, false, cond, List, [], ◌∷◌, ◌++◌, drop, filter, Contains, IsPermutation}
use Rattle.std.proofs.Common.{Option, Some, None, is_eq, refl, sym, ap, subst, ◌∙◌, inl, inr, Ordering, Less, Equal, Greater}
use Rattle.std.specs.Cmp.{IsTotalOrder}
use Rattle.std.specs.List.{AllByRecursion}
use Rattle.std.proofs.lemmas.Cmp.{tied_itself, tied_back}
use Rattle.std.proofs.lemmas.List.Elements.{Contains-append_left, Contains-append_right, Contains-append_cases}
use Rattle.std.proofs.lemmas.List.Sorted.{Contains-permutation, IsPermutation-sym}
use Rattle.pend_queue.specs.Pairs.{IsAscending, KeyIsAbsent, HaveNoCommonKey, pair_at}
use Rattle.base_lists.proofs.Orders.{less_one_way, less_not_tied, same_not_less}
use Rattle.base_lists.proofs.Members.{Contains-nil, Contains-head, Contains-tail, Contains-cases, Contains-filter, each_from_members, each_at_member}

module _ {K V : Type 0} (cmp : K → K → Ordering) where
  -- parts of an ascending list, and lists that make one
  pub IsAscending-drop : (ps : List (K × V)) → IsAscending cmp ps → IsAscending cmp (drop 1 ps)
  IsAscending-drop [] up = tt
  IsAscending-drop (p ∷ ps) up = up.1

  filter_step : (test : K × V → Bool) (p : K × V) (ps : List (K × V)) (b : Bool) → AllByRecursion (λ q. cmp p.0 q.0 ≡ Less) ps
      → IsAscending cmp (filter test ps) → IsAscending cmp (cond b (p ∷ filter test ps) (filter test ps))
  filter_step test p ps true below rest = (
    each_from_members (λ q. cmp p.0 q.0 ≡ Less) (filter test ps)
        (λ q among. let kept = Contains-filter test ps q among in each_at_member (λ q. cmp p.0 q.0 ≡ Less) ps q below kept.0),
    rest,
  )
  filter_step test p ps false below rest = rest

  pub IsAscending-filter : (test : K × V → Bool) (ps : List (K × V)) → IsAscending cmp ps → IsAscending cmp (filter test ps)
  IsAscending-filter test [] up = tt
  IsAscending-filter test (p ∷ ps) up = filter_step test p ps (test p) up.0 (IsAscending-filter test ps up.1)

  pub IsAscending-append : (ps qs : List (K × V)) → IsAscending cmp ps → IsAscending cmp qs
      → ((p q : K × V) → Contains ps p → Contains qs q → cmp p.0 q.0 ≡ Less) → IsAscending cmp (ps ++ qs)
  IsAscending-append [] qs up over across = over
  IsAscending-append (p ∷ ps) qs up over across = (
    each_from_members (λ q. cmp p.0 q.0 ≡ Less) (ps ++ qs) (λ q among. elim (Contains-append_cases ps qs q among) [
      | inl first ↦ each_at_member (λ q. cmp p.0 q.0 ≡ Less) ps q up.0 first
      | inr second ↦ across p q (Contains-head p ps) second
    ]),
    IsAscending-append ps qs up.1 over (λ x y first second. across x y (Contains-tail p ps x first) second),
  )

  pub record AreAscendingParts (ps qs : List (K × V)) : Type 0 where
    pub first : IsAscending cmp ps
    pub second : IsAscending cmp qs
    pub across : (p q : K × V) → Contains ps p → Contains qs q → cmp p.0 q.0 ≡ Less

  pub ascending_parts : (ps qs : List (K × V)) → IsAscending cmp (ps ++ qs) → AreAscendingParts ps qs
  ascending_parts [] qs up = record { first = tt; second = up; across = λ p q among _. absurd (Contains-nil p among) }
  ascending_parts (p ∷ ps) qs up =
      let parts = ascending_parts ps qs up.1 in
      let below = λ (q : K × V) (among : Contains (ps ++ qs) q). each_at_member (λ q. cmp p.0 q.0 ≡ Less) (ps ++ qs) q up.0 among in
      record {
        first = (each_from_members (λ q. cmp p.0 q.0 ≡ Less) ps (λ q among. below q (Contains-append_left ps qs q among)), parts.first);
        second = parts.second;
        across = λ x y first second. elim (Contains-cases p ps x first) [
          | inl same ↦ subst (λ (z : K × V). cmp z.0 y.0 ≡ Less) same (below y (Contains-append_right ps qs y second))
          | inr later ↦ parts.across x y later second
        ];
      }

  -- every pair is the head or above it
  pub head_or_above : (p : K × V) (ps : List (K × V)) (q : K × V) → IsAscending cmp (p ∷ ps) → Contains (p ∷ ps) q → (p ≡ q) ⊎ (cmp p.0 q.0 ≡ Less)
  head_or_above p ps q up among = elim (Contains-cases p ps q among) [
    | inl same ↦ inl same
    | inr later ↦ inr (each_at_member (λ q. cmp p.0 q.0 ≡ Less) ps q up.0 later)
  ]

  -- what has no pair of a key, by its pairs
  pub absent_from_members : (key : K) (ps : List (K × V)) → ((p : K × V) → Contains ps p → cmp p.0 key ≢ Equal) → KeyIsAbsent cmp key ps
  absent_from_members key ps differs = each_from_members (λ p. cmp p.0 key ≢ Equal) ps differs

  pub absent_at_member : (key : K) (ps : List (K × V)) (p : K × V) → KeyIsAbsent cmp key ps → Contains ps p → cmp p.0 key ≢ Equal
  absent_at_member key ps p absent among = each_at_member (λ p. cmp p.0 key ≢ Equal) ps p absent among

  pub absent-append : (key : K) (ps qs : List (K × V)) → KeyIsAbsent cmp key ps → KeyIsAbsent cmp key qs → KeyIsAbsent cmp key (ps ++ qs)
  absent-append key ps qs first second = absent_from_members key (ps ++ qs) (λ p among. elim (Contains-append_cases ps qs p among) [
    | inl left ↦ absent_at_member key ps p first left
    | inr right ↦ absent_at_member key qs p second right
  ])

  pub absent-IsPermutation : (key : K) (ps qs : List (K × V)) → IsPermutation ps qs → KeyIsAbsent cmp key ps → KeyIsAbsent cmp key qs
  absent-IsPermutation key ps qs moved absent =
      absent_from_members key qs (λ q among. absent_at_member key ps q absent (Contains-permutation qs ps q (IsPermutation-sym ps qs moved) among))

  pub apart_from_members : (ps qs : List (K × V)) → ((p q : K × V) → Contains ps p → Contains qs q → cmp p.0 q.0 ≢ Equal) → HaveNoCommonKey cmp ps qs
  apart_from_members ps qs differ = each_from_members (λ q. KeyIsAbsent cmp q.0 ps) qs
      (λ q second. absent_from_members q.0 ps (λ p first. differ p q first second))

  pub apart_at_members : (ps qs : List (K × V)) (p q : K × V) → HaveNoCommonKey cmp ps qs → Contains ps p → Contains qs q → cmp p.0 q.0 ≢ Equal
  apart_at_members ps qs p q apart first second = absent_at_member q.0 ps p (each_at_member (λ q. KeyIsAbsent cmp q.0 ps) qs q apart second) first

  -- a look-up by key, at the head and then in the rest
  module _ (key : K) (q : K × V) (ps : List (K × V)) where
    some_step : (p : K × V) (o : Ordering) → cmp q.0 key ≡ o → (pair_at cmp key ps ≡ Some p → Contains ps p × (cmp p.0 key ≡ Equal))
        → cond (is_eq o) (Some q) (pair_at cmp key ps) ≡ Some p → Contains (q ∷ ps) p × (cmp p.0 key ≡ Equal)
    some_step p Equal tied rest found = let same : q ≡ p = cc in
        (subst (Contains (q ∷ ps)) same (Contains-head q ps), subst (λ (z : K × V). cmp z.0 key ≡ Equal) same tied)
    some_step p Less below rest found = let later = rest found in (Contains-tail q ps p later.0, later.1)
    some_step p Greater above rest found = let later = rest found in (Contains-tail q ps p later.0, later.1)

    none_step : (o : Ordering) → cmp q.0 key ≡ o → (pair_at cmp key ps ≡ None → KeyIsAbsent cmp key ps) → cond (is_eq o) (Some q) (pair_at cmp key ps) ≡ None
        → KeyIsAbsent cmp key (q ∷ ps)
    none_step Equal tied rest found = cc
    none_step Less below rest found = (λ tied. cc, rest found)
    none_step Greater above rest found = (λ tied. cc, rest found)

    absent_step : (o : Ordering) → cmp q.0 key ≡ o → cmp q.0 key ≢ Equal → pair_at cmp key ps ≡ None → cond (is_eq o) (Some q) (pair_at cmp key ps) ≡ None
    absent_step Equal tied differs rest = absurd (differs tied)
    absent_step Less below differs rest = rest
    absent_step Greater above differs rest = rest

  pub pair_at-Some : (key : K) (ps : List (K × V)) (p : K × V) → pair_at cmp key ps ≡ Some p → Contains ps p × (cmp p.0 key ≡ Equal)
  pair_at-Some key [] p found = cc
  pair_at-Some key (q ∷ ps) p found = some_step key q ps p (cmp q.0 key) refl (pair_at-Some key ps p) found

  pub pair_at-None : (key : K) (ps : List (K × V)) → pair_at cmp key ps ≡ None → KeyIsAbsent cmp key ps
  pair_at-None key [] found = tt
  pair_at-None key (q ∷ ps) found = none_step key q ps (cmp q.0 key) refl (pair_at-None key ps) found

  pub pair_at-absent : (key : K) (ps : List (K × V)) → KeyIsAbsent cmp key ps → pair_at cmp key ps ≡ None
  pair_at-absent key [] absent = refl
  pair_at-absent key (q ∷ ps) absent = absent_step key q ps (cmp q.0 key) refl absent.0 (pair_at-absent key ps absent.1)

module _ {K V : Type 0} {cmp : K → K → Ordering} (order : IsTotalOrder cmp) where
  -- the head is the least
  pub least_first : (p : K × V) (ps : List (K × V)) (q : K × V) → IsAscending cmp (p ∷ ps) → Contains (p ∷ ps) q → cmp p.0 q.0 ≢ Greater
  least_first p ps q up among greater = elim (Contains-cases p ps q among) [
    | inl same ↦ let tied : cmp p.0 q.0 ≡ Equal = subst (λ (z : K × V). cmp p.0 z.0 ≡ Equal) same (tied_itself order p.0) in cc
    | inr later ↦ let below : cmp p.0 q.0 ≡ Less = each_at_member (λ q. cmp p.0 q.0 ≡ Less) ps q up.0 later in cc
  ]

  -- a key above which the head is stands nowhere in the list
  pub absent_below_head : (key : K) (p : K × V) (ps : List (K × V)) → IsAscending cmp (p ∷ ps) → cmp key p.0 ≡ Less → KeyIsAbsent cmp key (p ∷ ps)
  absent_below_head key p ps up below = (
    less_not_tied order key p.0 below,
    absent_from_members cmp key ps (λ q among.
        less_not_tied order key q.0 (order.trans key p.0 q.0 below (each_at_member (λ q. cmp p.0 q.0 ≡ Less) ps q up.0 among))),
  )

  -- the head's key is not among the rest
  pub absent_from_rest : (p : K × V) (ps : List (K × V)) → IsAscending cmp (p ∷ ps) → KeyIsAbsent cmp p.0 ps
  absent_from_rest p ps up = absent_from_members cmp p.0 ps (λ q among. less_not_tied order p.0 q.0 (each_at_member (λ q. cmp p.0 q.0 ≡ Less) ps q up.0 among))

  -- one key, one pair
  pub same_key_same_pair : (ps : List (K × V)) (p q : K × V) → IsAscending cmp ps → Contains ps p → Contains ps q → cmp p.0 q.0 ≡ Equal → p ≡ q
  same_key_same_pair [] p q up first second tied = absurd (Contains-nil p first)
  same_key_same_pair (x ∷ ps) p q up first second tied = elim (Contains-cases x ps p first) [
    | inl here ↦ elim (Contains-cases x ps q second) [
      | inl there ↦ sym here ∙ there
      | inr later ↦ let below : cmp p.0 q.0 ≡ Less =
          subst (λ (z : K × V). cmp z.0 q.0 ≡ Less) here (each_at_member (λ q. cmp x.0 q.0 ≡ Less) ps q up.0 later) in cc
    ]
    | inr later ↦ elim (Contains-cases x ps q second) [
      | inl there ↦
          let below : cmp q.0 p.0 ≡ Less = subst (λ (z : K × V). cmp z.0 p.0 ≡ Less) there (each_at_member (λ q. cmp x.0 q.0 ≡ Less) ps p up.0 later) in
          absurd (less_not_tied order q.0 p.0 below tied)
      | inr also ↦ same_key_same_pair ps p q up.1 later also tied
    ]
  ]

  -- a pair of the list is what a look-up of its key finds
  pub pair_at-member : (key : K) (ps : List (K × V)) (p : K × V) → IsAscending cmp ps → Contains ps p → cmp p.0 key ≡ Equal → pair_at cmp key ps ≡ Some p
  pair_at-member key ps p up among tied = at (pair_at cmp key ps) refl
    where
      at : (found : Option (K × V)) → pair_at cmp key ps ≡ found → pair_at cmp key ps ≡ Some p
      at None is = absurd (absent_at_member cmp key ps p (pair_at-None cmp key ps is) among tied)
      at (Some q) is =
          let found = pair_at-Some cmp key ps q is in
          is ∙ ap Some (same_key_same_pair ps q p up found.0 among (order.congr q.0 key p.0 found.1 ∙ tied_back order p.0 key tied))

  -- two ascending lists of the same pairs have one head, and then the same pairs in the rest
  module _ (p q : K × V) (ps qs : List (K × V)) (up : IsAscending cmp (p ∷ ps)) (over : IsAscending cmp (q ∷ qs)) (there : (x : K × V) → Contains (p ∷ ps) x
      → Contains (q ∷ qs) x) where
    same_heads : ((x : K × V) → Contains (q ∷ qs) x → Contains (p ∷ ps) x) → p ≡ q
    same_heads back = elim (Contains-cases q qs p (there p (Contains-head p ps))) [
      | inl here ↦ sym here
      | inr later ↦ elim (Contains-cases p ps q (back q (Contains-head q qs))) [
        | inl here ↦ here
        | inr also ↦ absurd (less_one_way order p.0 q.0 (each_at_member (λ x. cmp p.0 x.0 ≡ Less) ps q up.0 also)
            (each_at_member (λ x. cmp q.0 x.0 ≡ Less) qs p over.0 later))
      ]
    ]

    in_rest : p ≡ q → (x : K × V) → Contains ps x → Contains qs x
    in_rest same x among = elim (Contains-cases q qs x (there x (Contains-tail p ps x among))) [
      | inl here ↦ absurd (same_not_less order p.0 x.0 (ap (λ (z : K × V). z.0) (same ∙ here)) (each_at_member (λ x. cmp p.0 x.0 ≡ Less) ps x up.0 among))
      | inr later ↦ later
    ]

  -- ascending lists of the same pairs are the same list
  pub same_from_members : (ps qs : List (K × V)) → IsAscending cmp ps → IsAscending cmp qs → ((x : K × V) → Contains ps x → Contains qs x)
      → ((x : K × V) → Contains qs x → Contains ps x) → ps ≡ qs
  same_from_members [] [] up over there back = refl
  same_from_members [] (q ∷ qs) up over there back = absurd (Contains-nil q (back q (Contains-head q qs)))
  same_from_members (p ∷ ps) [] up over there back = absurd (Contains-nil p (there p (Contains-head p ps)))
  same_from_members (p ∷ ps) (q ∷ qs) up over there back =
      let same = same_heads p q ps qs up over there back in
      let rest = same_from_members ps qs up.1 over.1 (in_rest p q ps qs up over there same) (in_rest q p qs ps over up back (sym same)) in
      ap (λ l. p ∷ l) rest ∙ ap (λ x. x ∷ qs) same

  pub same_from_permutation : (ps qs : List (K × V)) → IsAscending cmp ps → IsAscending cmp qs → IsPermutation ps qs → ps ≡ qs
  same_from_permutation ps qs up over moved =
      same_from_members ps qs up over (λ x among. Contains-permutation ps qs x moved among)
      (λ x among. Contains-permutation qs ps x (IsPermutation-sym ps qs moved) among)
