-- The trees of a row and the binary digits of its number of pairs.
use Rattle.std.proofs.Common.{◌≡◌, ℕ, zero, suc, ◌+◌, ◌-◌, ◌*◌, ◌^◌, ◌<◌, ◌≤◌, ◌++◌, length, count_ones, sym, ap, ◌∙◌, Ordering, add-one, add-zero}
use Rattle.std.proofs.Common.{arith, length-append}
use Rattle.std.proofs.Math.Nat.{pow-suc, mul_assoc, mul_comm, suc-mul}
use Rattle.std.proofs.lemmas.Nat.{pow-add, pow_pos, ones_cat, ones_le_self}
use Rattle.std.specs.Int.Count.{ones-ones}
use Rattle.binom_queue.specs.declared.forest.Forest.{Forest}
use Rattle.binom_queue.specs.declared.forest.Forest.TheVariants.{Empty, Of'}
use Rattle.binom_queue.specs.Trees.{items, trees, depth, AreChildren, AreRoots}
use Rattle.binom_queue.proofs.Heaps.{length-children, order_fits}

no_ones : count_ones 0 ≡ 0
no_ones = let le = ones_le_self 0 in omega arith

one_one : count_ones 1 ≡ 1
one_one = ones-ones 1

-- zeros behind a number, and a one behind it
ones_shifted : (n k : ℕ) → count_ones (n * 2 ^ k) ≡ count_ones n
ones_shifted n k = let all = ones_cat k n 0 (pow_pos k) in let none = no_ones in ap count_ones (sym (add-zero (n * 2 ^ k))) ∙ all ∙ ap
    (λ m. count_ones n + m) none ∙ add-zero (count_ones n)

ones_next : (n : ℕ) → count_ones (n * 2 + 1) ≡ count_ones n + 1
ones_next n = let all = ones_cat 1 n 1 (omega arith) in all ∙ ap (λ m. count_ones n + m) one_one

odd_part : (n p : ℕ) → n * (p * 2) + p ≡ (n * 2 + 1) * p
odd_part n p = ap (λ m. m + p) (ap (λ m. n * m) (mul_comm p 2) ∙ sym (mul_assoc n 2 p)) ∙ sym (suc-mul (n * 2) p) ∙ ap (λ m. m * p) (sym (add-one (n * 2)))

module _ {K V : Type 0} (cmp : K → K → Ordering) where
  -- As many trees as ones. From order n on, the length has n zeros at its end, and q before them.
  digits_of : (n : ℕ) (roots : Forest K V) → AreRoots cmp n roots → (q : ℕ) × (length (items roots) ≡ q * 2 ^ n) × (trees roots ≡ count_ones q)
  digits_of n Empty are = (0, omega arith, sym no_ones)
  digits_of n (Of' box pair order child next) are =
      let rest = digits_of (suc order) next are.2 in
      let own = length-children cmp pair.0 order child are.1 in
      let ahead = order - n in
      let place : order ≡ ahead + n = let least = are.0 in omega arith in
      let power : 2 ^ order ≡ 2 ^ ahead * 2 ^ n = ap (λ k. 2 ^ k) place ∙ pow-add 2 ahead n in
      let after : length (items next) ≡ rest.0 * (2 ^ order * 2) = rest.1 ∙ ap (λ m. rest.0 * m) (pow-suc 2 order) in
      let long : suc (length (items child ++ items next)) ≡ rest.0 * (2 ^ order * 2) + 2 ^ order = omega (arith, length-append (items child) (items next)) in (
        (rest.0 * 2 + 1) * 2 ^ ahead,
        long ∙ odd_part rest.0 (2 ^ order) ∙ ap (λ m. (rest.0 * 2 + 1) * m) power ∙ sym (mul_assoc (rest.0 * 2 + 1) (2 ^ ahead) (2 ^ n)),
        ap (λ m. m + 1) rest.2 ∙ sym (ones_next rest.0) ∙ sym (ones_shifted (rest.0 * 2 + 1) ahead),
      )

  pub trees_are_ones : (roots : Forest K V) → AreRoots cmp 0 roots → trees roots ≡ count_ones (length (items roots))
  trees_are_ones roots are = let all = digits_of 0 roots are in let same : length (items roots) ≡ all.0 = omega (arith, all.1) in all.2 ∙ ap
      count_ones (sym same)

  -- no walk from a root of order n downwards passes more than n nodes
  depth_of_children : (key : K) (n : ℕ) (below : Forest K V) → AreChildren cmp key n below → depth below ≤ n
  depth_of_children key zero Empty are = omega arith
  depth_of_children key zero (Of' box pair order child next) are = absurd are
  depth_of_children key (suc n) Empty are = absurd are
  depth_of_children key (suc n) (Of' box pair order child next) are =
      let first = depth_of_children pair.0 n child are.2 in
      let second = depth_of_children key n next are.3 in
      omega arith

  depth_from : (n digits : ℕ) (roots : Forest K V) → AreRoots cmp n roots → length (items roots) < 2 ^ digits → depth roots ≤ 2 * digits - n
  depth_from n digits Empty are fits = omega arith
  depth_from n digits (Of' box pair order child next) are fits =
      let all = length-append (items child) (items next) in
      let short : order < digits = order_fits cmp pair.0 order digits child are.1 (omega arith) in
      let first = depth_of_children pair.0 order child are.1 in
      let second = depth_from (suc order) digits next are.2 (omega arith) in
      let least = are.0 in
      omega arith

  pub shallow : (roots : Forest K V) → AreRoots cmp 0 roots → (digits : ℕ) → length (items roots) < 2 ^ digits → depth roots ≤ 2 * digits
  shallow roots are digits fits = let all = depth_from 0 digits roots are fits in omega arith

  -- Each link leaves one tree fewer, so the links that make one row of two are told by the lengths.
  pub links_told : (left right whole : Forest K V) (n m before after : ℕ) → AreRoots cmp 0 left → AreRoots cmp 0 right → AreRoots cmp 0 whole
      → n ≡ length (items left) → m ≡ length (items right) → length (items whole) ≡ length (items left) + length (items right)
      → after + trees whole ≡ before + (trees left + trees right) → after + count_ones (n + m) ≡ before + (count_ones n + count_ones m)
  links_told left right whole n m before after first second third many more all links =
      let lefts : trees left ≡ count_ones n = trees_are_ones left first ∙ ap count_ones (sym many) in
      let rights : trees right ≡ count_ones m = trees_are_ones right second ∙ ap count_ones (sym more) in
      let sum : length (items whole) ≡ n + m = omega arith in
      let wholes : trees whole ≡ count_ones (n + m) = trees_are_ones whole third ∙ ap count_ones sum in
      omega arith
