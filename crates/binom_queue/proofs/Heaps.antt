-- Binomial heaps: how many pairs and trees they have, and that no key is below a root's.
use Rattle.std.proofs.Common.{◌≡◌, ℕ, zero, suc, ◌+◌, ◌^◌, ◌<◌, ◌≤◌, List, ◌++◌, length, IsPermutation, refl, sym, ap, subst, ◌∙◌, inl, inr, Ordering}
use Rattle.std.proofs.Common.{arith, length-append}
use Rattle.std.proofs.Math.Nat.{pow-suc}
use Rattle.std.proofs.Math.Pow.{pow_mono}
use Rattle.std.proofs.lemmas.Bool.{cases_lt}
use Rattle.std.proofs.Common.{Box, Global}
use Rattle.std.specs.Box.{with_value}
use Rattle.binom_queue.specs.declared.forest.Forest.{Forest}
use Rattle.binom_queue.specs.declared.forest.Forest.TheVariants.{Empty, Of, Of'}
use Rattle.binom_queue.specs.declared.forest.Node.{Node}
use Rattle.binom_queue.specs.Trees.{items, tree_items, AreChildren, AreRoots, IsTakenOut}
use Rattle.std.proofs.lemmas.List.Sorted.{IsPermutation-append_left}
use Rattle.base_lists.proofs.Shuffles.{kept_aside}

module _ {K V : Type 0} (cmp : K → K → Ordering) where
  -- a root of order n and what is below it have 2 to the n pairs
  pub length-children : (key : K) (n : ℕ) (below : Forest K V) → AreChildren cmp key n below → length (items below) + 1 ≡ 2 ^ n
  length-children key zero Empty is = refl
  length-children key zero (Of' box pair order child next) is = absurd is
  length-children key (suc n) Empty is = absurd is
  length-children key (suc n) (Of' box pair order child next) is =
      let half : length (items child) + 1 ≡ 2 ^ n = length-children pair.0 n child is.2 in
      let rest : length (items next) + 1 ≡ 2 ^ n = length-children key n next is.3 in
      omega (arith, length-append (items child) (items next), pow-suc 2 n)

  -- from a larger order on, so from a smaller one on
  pub roots_from_less : (m n : ℕ) (roots : Forest K V) → m ≤ n → AreRoots cmp n roots → AreRoots cmp m roots
  roots_from_less m n Empty le are = tt
  roots_from_less m n (Of' box pair order child next) le are = (omega arith, are.1, are.2)

  -- an order that fits digits whose powers hold all pairs
  pub order_fits : (key : K) (n digits : ℕ) (below : Forest K V) → AreChildren cmp key n below → length (items below) + 1 < 2 ^ digits → n < digits
  order_fits key n digits below are fits = elim (cases_lt n digits) [
    | inl lt ↦ lt
    | inr ge ↦ let most : 2 ^ digits ≤ 2 ^ n = pow_mono ge in let long = length-children key n below are in absurd (omega arith)
  ]

module _ {K V : Type 0} where
  -- a row by its first root
  pub opened : (roots : Forest K V) (root : Box (Node K V) Global) (own : Node K V) → roots ≡ Of root → own ≡ root.value → roots ≡ Of (with_value root own)
  opened roots root own is same = is ∙ ap (λ (n : Node K V). Of (with_value root n)) (sym same)

  -- a row is its first tree and the rest
  pub items_cut : (roots : Forest K V) (root own : Box (Node K V) Global) (rest : Forest K V) → roots ≡ Of root
      → own ≡ with_value root (record root.value { next = Empty }) → rest ≡ root.value.next → items roots ≡ tree_items own.value ++ items rest
  items_cut roots root own rest is tree after =
      ap items is ∙ sym (ap (λ (b : Box (Node K V) Global). tree_items b.value ++ items rest) tree ∙ ap
      (λ (f : Forest K V). tree_items root.value ++ items f) after)

module _ {K V : Type 0} (cmp : K → K → Ordering) where
  -- the first child of a root, before the trees of orders from the root's on
  raised_first : (key : K) (n : ℕ) (root : Node K V) (box : Box (Unit {0}) Global) (greater : Forest K V)
      → AreChildren cmp key n (Of' box root.pair root.order root.child root.next) → AreRoots cmp n greater
      → (key : K) × (m : ℕ) × AreChildren cmp key m root.next ×
      (AreChildren cmp root.pair.0 root.order root.child × AreRoots cmp (suc root.order) greater × (m ≡ root.order))
  raised_first key zero root box greater are rise = absurd are
  raised_first key (suc n) root box greater are rise = (
    key,
    n,
    are.3,
    (
      subst (λ (m : ℕ). AreChildren cmp root.pair.0 m root.child) (sym are.0) are.2,
      subst (λ (m : ℕ). AreRoots cmp (suc m) greater)
          (sym are.0) rise,
      sym are.0,
    ),
  )

  pub raised_requires : (children : Forest K V) (root own : Box (Node K V) Global) (rest greater whole : Forest K V) → children ≡ Of root
      → own ≡ with_value root (record root.value { next = Empty }) → rest ≡ root.value.next → whole ≡ Of (with_value own (record own.value { next = greater }))
      → ((key : K) × (n : ℕ) × AreChildren cmp key n children × AreRoots cmp n greater)
      → (key : K) × (n : ℕ) × AreChildren cmp key n rest × AreRoots cmp n whole
  raised_requires children root own rest greater whole is tree after made (key, n, are, rise) =
      let got = raised_first key n root.value (record { ptr = root.ptr; alloc = root.alloc; value = tt }) greater (subst (AreChildren cmp key n) is are) rise in
      let same : whole ≡ Of (with_value root (record root.value { next = greater })) = made ∙ ap
      (λ (b : Box (Node K V) Global). Of (with_value b (record b.value { next = greater }))) tree in
      (got.0, got.1, subst (AreChildren cmp got.0 got.1) (sym after) got.2, subst (AreRoots cmp got.1) (sym same) (omega arith, got.3.0, got.3.1))

  -- a tree taken out of the rest of a row
  pub taken_from_rest : (old : Forest K V) (root own : Box (Node K V) Global) (rest left new : Forest K V) (taken : Node K V) → old ≡ Of root
      → own ≡ with_value root (record root.value { next = Empty }) → rest ≡ root.value.next → new ≡ Of (with_value own (record own.value { next = left }))
      → IsTakenOut cmp rest left taken → IsTakenOut cmp old new taken
  taken_from_rest old root own rest left new taken is tree after made out =
      let before : items old ≡ tree_items own.value ++ items rest = items_cut old root own rest is tree after in
      let same : new ≡ Of (with_value root (record root.value { next = left })) = made ∙ ap
      (λ (b : Box (Node K V) Global). Of (with_value b (record b.value { next = left }))) tree in
      record {
        below = out.below;
        alone = out.alone;
        rest = λ n are.
            let parts = subst (AreRoots cmp n) is are in
            subst (AreRoots cmp n) (sym same) (
              parts.0,
              parts.1,
              out.rest (suc root.value.order)
                  (subst (AreRoots cmp (suc root.value.order)) (sym after) parts.2),
            );
        pairs =
            subst (λ (l : List (K × V)). IsPermutation l (tree_items taken ++ items new)) (sym before)
            (subst (λ (f : Forest K V). IsPermutation (tree_items own.value ++ items rest) (tree_items taken ++ items f)) (sym made)
            (kept_aside (tree_items own.value) (items rest) (tree_items taken) (items left) out.pairs));
      }

  -- the first tree of a row taken out, with its pairs in another order
  pub taken_first : (old : Forest K V) (root own : Box (Node K V) Global) (rest : Forest K V) (taken : Node K V) (key : K) → old ≡ Of root
      → own ≡ with_value root (record root.value { next = Empty }) → rest ≡ root.value.next
      → AreChildren cmp key taken.order taken.child → taken.next ≡ Empty → IsPermutation (tree_items own.value) (tree_items taken)
      → IsTakenOut cmp old rest taken
  taken_first old root own rest taken key is tree after are alone moved =
      let before : items old ≡ tree_items own.value ++ items rest = items_cut old root own rest is tree after in
      record {
        below = (key, are);
        alone = alone;
        rest = λ n rise. let parts = subst (AreRoots cmp n) is rise in roots_from_less cmp n (suc root.value.order) rest (omega arith)
            (subst (AreRoots cmp (suc root.value.order)) (sym after) parts.2);
        pairs = subst (λ (l : List (K × V)). IsPermutation l (tree_items taken ++ items rest)) (sym before) (IsPermutation-append_left (items rest) _ _ moved);
      }

module _ {K V : Type 0} where
  -- a root put back before the rest that it had
  pub put_back : (old : Forest K V) (root own again : Box (Node K V) Global) (rest left new : Forest K V) → old ≡ Of root
      → own ≡ with_value root (record root.value { next = Empty }) → rest ≡ root.value.next → again ≡ own → left ≡ rest
      → new ≡ Of (with_value again (record again.value { next = left })) → new ≡ old
  put_back old root own again rest left new is tree after same kept made =
      made ∙ ap (λ (b : Box (Node K V) Global). Of (with_value b (record b.value { next = left }))) (same ∙ tree) ∙ ap
      (λ (f : Forest K V). Of (with_value root (record root.value { next = f }))) (kept ∙ after) ∙ sym is
