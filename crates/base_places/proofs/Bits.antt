-- The bits of a set's words.
use Rattle.std.proofs.lemmas.Bool.Decides.{nat_tests}
use Rattle.std.proofs.Math.Nat.{div-le_self}
use Rattle.std.proofs.lemmas.Nat.{shr-shr}
use Rattle.std.proofs.Common.{zero, div-one, Bool, true, false, nat_lt, ◌≡◌, ◌≢◌, ℕ, suc, ◌+◌, ◌-◌, ◌*◌, ◌/◌, ◌%◌, ◌^◌, ◌<◌}
use Rattle.std.proofs.Common.{◌≤◌, ◌⊎◌, ◌↔◌, inl, inr, List, length, slice_index, slice_set, bit_and, bit_or, w64, refl, ap, sym, ◌∙◌, subst, arith}
use mathlib.Core.Logic.{dite}
use native.Mathlib.Decide.{ℕ_discrete}
use Rattle.std.specs.Int.{bit_at, bit_not, trailing_zeros}
use Rattle.std.proofs.Math.Nat.{mod-add-div'}
use Rattle.std.proofs.lemmas.List.{get_or-set_same, get_or-set_other, get_or_past}
use Rattle.std.proofs.lemmas.Nat.Bits.{bit_at_lowest, bit_at-suc, bit_at_and}
use Rattle.std.proofs.lemmas.Nat.Bits.{bit_at-zero, bit_at_set_same, bit_at_set_other, bit_at_clear_same}
use Rattle.std.proofs.lemmas.Nat.Bits.{bit_at_clear_other, bit_at-trailing_zeros, bit_at_above}
use Rattle.base_places.specs.Sets.{Has, IsNextPlace}

-- a place is its word and its bit
pub parted : (p : ℕ) → p ≡ p / 64 * 64 + p % 64
parted p = omega (arith, mod-add-div' p 64)

pub same_place : (p q : ℕ) → p / 64 ≡ q / 64 → p % 64 ≡ q % 64 → p ≡ q
same_place p q word bit = omega (arith, parted p, parted q)

pub bit_low : (p : ℕ) → p % 64 < 64
bit_low p = omega arith

-- none past the words
pub none_past : (words : List ℕ) (p : ℕ) → length words ≤ p / 64 → Has words p → ⊥
none_past words p past has =
    let zero : bit_at (slice_index words (p / 64)) (p % 64) ≡ 0 = ap (λ n. bit_at n (p % 64)) (get_or_past words (p / 64) 0 past) ∙ bit_at-zero (p % 64) in
    absurd (omega (arith, zero, has))

-- none in a word of no bits
pub none_in : (words : List ℕ) (p : ℕ) → slice_index words (p / 64) ≡ 0 → Has words p → ⊥
none_in words p empty has =
    let none : bit_at (slice_index words (p / 64)) (p % 64) ≡ 0 = ap (λ n. bit_at n (p % 64)) empty ∙ bit_at-zero (p % 64) in absurd (omega (arith, none, has))

-- a word is changed, so that one bit is and the others stay
module _ (words : List ℕ) (p word : ℕ) (long : p / 64 < length words) where
  other_word : (q : ℕ) → q / 64 ≢ p / 64 → slice_index (slice_set words (p / 64) word) (q / 64) ≡ slice_index words (q / 64)
  other_word q apart = get_or-set_other words (p / 64) (q / 64) word 0 apart

  own_word : (q : ℕ) → q / 64 ≡ p / 64 → slice_index (slice_set words (p / 64) word) (q / 64) ≡ word
  own_word q same = ap (λ n. slice_index (slice_set words (p / 64) word) n) same ∙ get_or-set_same words (p / 64) word 0 long

  pub bit_there : bit_at (slice_index (slice_set words (p / 64) word) (p / 64)) (p % 64) ≡ bit_at word (p % 64)
  bit_there = ap (λ n. bit_at n (p % 64)) (own_word p refl)

  pub bit_elsewhere : ((b : ℕ) → b < 64 → b ≢ p % 64 → bit_at word b ≡ bit_at (slice_index words (p / 64)) b)
      → (q : ℕ) → q ≢ p → bit_at (slice_index (slice_set words (p / 64) word) (q / 64)) (q % 64) ≡ bit_at (slice_index words (q / 64)) (q % 64)
  bit_elsewhere kept q apart = dite (ℕ_discrete (q / 64) (p / 64))
      (λ same. ap (λ n. bit_at n (q % 64)) (own_word q same) ∙ kept (q % 64) (bit_low q) (λ bit. apart (same_place q p same bit))
      ∙ ap (λ n. bit_at (slice_index words n) (q % 64)) (sym same))
      (λ other. ap (λ n. bit_at n (q % 64)) (other_word q other))

-- one place more
pub with_bit : ℕ → ℕ → ℕ
with_bit n k = bit_or n (1 * 2 ^ k % 2 ^ 64)

pub inserted : (words : List ℕ) (p : ℕ) → p / 64 < length words → (q : ℕ)
    → Has (slice_set words (p / 64) (bit_or (slice_index words (p / 64)) (1 * 2 ^ (p % 64) % 2 ^ 64))) q ↔ ((q ≡ p) ⊎ Has words q)
inserted words p long q =
    let word = bit_or (slice_index words (p / 64)) (1 * 2 ^ (p % 64) % 2 ^ 64) in
    let own = bit_there words p word long ∙ bit_at_set_same w64 (slice_index words (p / 64)) (p % 64) (bit_low p) in
    let rest = bit_elsewhere words p word long (λ b low apart. bit_at_set_other w64 (slice_index words (p / 64)) (p % 64) (bit_low p) b apart) q in (
      λ has. dite (ℕ_discrete q p) (λ same. inl same) (λ apart. inr (sym (rest apart) ∙ has)),
      λ either. elim either [
        | inl same ↦ subst (Has (slice_set words (p / 64) word)) (sym same) own
        | inr has ↦ dite (ℕ_discrete q p) (λ same. subst (Has (slice_set words (p / 64) word)) (sym same) own) (λ apart. rest apart ∙ has)
      ],
    )

-- one place less
pub removed : (words : List ℕ) (p : ℕ) → p / 64 < length words → (q : ℕ)
    → Has (slice_set words (p / 64) (bit_and (slice_index words (p / 64)) (bit_not w64 (1 * 2 ^ (p % 64) % 2 ^ 64)))) q ↔ ((q ≢ p) × Has words q)
removed words p long q =
    let word = bit_and (slice_index words (p / 64)) (bit_not w64 (1 * 2 ^ (p % 64) % 2 ^ 64)) in
    let own = bit_there words p word long ∙ bit_at_clear_same w64 (slice_index words (p / 64)) (p % 64) (bit_low p) in
    let rest = bit_elsewhere words p word long (λ b low apart. bit_at_clear_other w64 (slice_index words (p / 64)) (p % 64) (bit_low p) b low apart) q in (
      λ has.
          let apart : q ≢ p = λ same. let gone : 1 ≡ 0 = sym (subst (Has (slice_set words (p / 64) word)) same has) ∙ own in absurd (omega (arith, gone)) in
          (apart, sym (rest apart) ∙ has),
      λ both. rest both.0 ∙ both.1,
    )

-- the bits of a word from one on
shifted : (n k i : ℕ) → bit_at (n / 2 ^ k) i ≡ bit_at n (k + i)
shifted n k i = ap (λ m. m % 2) (shr-shr n k i)

-- the first place of a set from one on, where its word has one
pub first_in : (words : List ℕ) (from rest : ℕ) → from / 64 < 64 → rest ≡ slice_index words (from / 64) / 2 ^ (from % 64) → rest ≢ 0
    → slice_index words (from / 64) < 2 ^ 64 → IsNextPlace words from (from + trailing_zeros w64 rest)
first_in words from rest low is some fits =
    let word = slice_index words (from / 64) in
    let bit = from % 64 in
    let less : rest ≤ word = subst (λ n. n ≤ word) (sym is) (div-le_self word (2 ^ bit)) in
    let lowest = bit_at-trailing_zeros w64 rest (omega arith) (omega (arith, less, fits)) in
    let zeros = trailing_zeros w64 rest in
    let there : bit_at word (bit + zeros) ≡ 1 = sym (shifted word bit zeros) ∙ ap (λ n. bit_at n zeros) (sym is) ∙ lowest.1 in
    let within : bit + zeros < 64 = within_word word (bit + zeros) fits there in
    let same_word : (from + zeros) / 64 ≡ from / 64 = omega (arith, within) in
    let same_bit : (from + zeros) % 64 ≡ bit + zeros = omega (arith, within) in
    record {
      in_range = omega (arith, within, low);
      there = ap (λ n. bit_at (slice_index words n) ((from + zeros) % 64)) same_word ∙ ap (λ b. bit_at word b) same_bit ∙ there;
      no_lower = omega arith;
      first = λ other after before has.
          let at_word : other / 64 ≡ from / 64 = omega (arith, within) in
          let at_bit : other % 64 ≡ bit + (other - from) = omega (arith, within) in
          let zero : bit_at rest (other - from) ≡ 0 = lowest.2 (other - from) (omega arith) in
          let here : bit_at word (bit + (other - from)) ≡ 1 = ap (λ b. bit_at word b) (sym at_bit)
          ∙ ap (λ n. bit_at (slice_index words n) (other % 64)) (sym at_word) ∙ has in
          let moved : bit_at rest (other - from) ≡ bit_at word (bit + (other - from)) = ap (λ n. bit_at n (other - from)) is
          ∙ shifted word bit (other - from) in
          absurd (omega (arith, zero, here, moved));
    }
  where
    within_word : (n b : ℕ) → n < 2 ^ 64 → bit_at n b ≡ 1 → b < 64
    within_word n b fits one = by_test (nat_lt b 64) refl
      where
        by_test : (c : Bool) → nat_lt b 64 ≡ c → b < 64
        by_test true e = grind (arith, nat_tests)
        by_test false e =
            let high : 64 ≤ b = grind (arith, nat_tests) in
            let none : bit_at n b ≡ 0 = bit_at_above n 64 b fits high in
            absurd (omega (arith, none, one))

-- the next place's word comes later
pub first_later : (words : List ℕ) (first word : ℕ) → first ≤ word → word < 64 → slice_index words word ≢ 0 → slice_index words word < 2 ^ 64
    → ((w : ℕ) → first ≤ w → w < word → slice_index words w ≡ 0) → IsNextPlace words (64 * first) (word * 64 + trailing_zeros w64 (slice_index words word))
first_later words first word after low some fits empty =
    let at : word * 64 / 64 ≡ word = omega arith in
    let bit : word * 64 % 64 ≡ 0 = omega arith in
    let whole : slice_index words word ≡ slice_index words (word * 64 / 64) / 2 ^ (word * 64 % 64) =
    sym (ap (λ w. slice_index words w / 2 ^ (word * 64 % 64)) at ∙ ap (λ b. slice_index words word / 2 ^ b) bit ∙ div-one (slice_index words word)) in
    let here = first_in words (word * 64) (slice_index words word) (omega arith) whole some (subst (λ w. slice_index words w < 2 ^ 64) (sym at) fits) in
    record {
      in_range = here.in_range;
      there = here.there;
      no_lower = let up = here.no_lower in omega (arith, up, after);
      first = λ other from before has. by_word other from before has here.first (nat_lt (other / 64) word) refl;
    }
  where
    by_word : (other : ℕ) → 64 * first ≤ other → other < word * 64 + trailing_zeros w64 (slice_index words word) → Has words other
        → ((o : ℕ) → word * 64 ≤ o → o < word * 64 + trailing_zeros w64 (slice_index words word) → Has words o → ⊥) → (c : Bool) → nat_lt (other / 64) word ≡ c
        → ⊥
    by_word other from before has later true e =
        let lower : other / 64 < word = grind (arith, nat_tests) in
        none_in words other (empty (other / 64) (omega arith) lower) has
    by_word other from before has later false e =
        let no_lower : word ≤ other / 64 = grind (arith, nat_tests) in
        later other (omega (arith, no_lower)) before has

-- none where no word from one on has a bit
pub none_later : (words : List ℕ) (first : ℕ) → length words ≡ 64 → ((w : ℕ) → first ≤ w → w < 64 → slice_index words w ≡ 0) → (place : ℕ) → 64 * first ≤ place
    → Has words place → ⊥
none_later words first long empty place after has = by_word (nat_lt (place / 64) 64) refl
  where
    by_word : (c : Bool) → nat_lt (place / 64) 64 ≡ c → ⊥
    by_word true e = let low : place / 64 < 64 = grind (arith, nat_tests) in none_in words place (empty (place / 64) (omega arith) low) has
    by_word false e = let high : 64 ≤ place / 64 = grind (arith, nat_tests) in none_past words place (omega (arith, high, long)) has

-- where a word has no bit from one on, the first place is in a later one
pub none_here : (words : List ℕ) (from : ℕ) → from / 64 < 64 → slice_index words (from / 64) < 2 ^ 64 → slice_index words (from / 64) / 2 ^ (from % 64) ≡ 0
    → (other : ℕ) → from ≤ other → other < 64 * (from / 64 + 1) → Has words other → ⊥
none_here words from low fits empty other after before has =
    let at_word : other / 64 ≡ from / 64 = omega arith in
    let at_bit : other % 64 ≡ from % 64 + (other - from) = omega arith in
    let here : bit_at (slice_index words (from / 64)) (from % 64 + (other - from)) ≡ 1 =
    ap (λ b. bit_at (slice_index words (from / 64)) b) (sym at_bit) ∙ ap (λ n. bit_at (slice_index words n) (other % 64)) (sym at_word) ∙ has in
    let none : bit_at (slice_index words (from / 64) / 2 ^ (from % 64)) (other - from) ≡ 0 = ap (λ n. bit_at n (other - from)) empty
    ∙ bit_at-zero (other - from) in
    absurd (omega (arith, here, none, shifted (slice_index words (from / 64)) (from % 64) (other - from)))

-- a number without its lowest 1
less_one : (low n : ℕ) → bit_at n low ≡ 1 → ((i : ℕ) → i < low → bit_at n i ≡ 0) → (bit_at (n - 1) low ≡ 0) × ((i : ℕ) → low < i
    → bit_at (n - 1) i ≡ bit_at n i)
less_one zero n one none = (omega (arith, one, bit_at_lowest n, bit_at_lowest (n - 1)), λ i after. above i after)
  where
    above : (i : ℕ) → 0 < i → bit_at (n - 1) i ≡ bit_at n i
    above zero after = absurd (omega (arith, after))
    above (suc i) after =
        let half : (n - 1) / 2 ≡ n / 2 = omega (arith, one, bit_at_lowest n) in
        bit_at-suc (n - 1) i ∙ ap (λ m. bit_at m i) half ∙ sym (bit_at-suc n i)
less_one (suc low) n one none =
    let even : n % 2 ≡ 0 = sym (bit_at_lowest n) ∙ none 0 (omega arith) in
    let half : (n - 1) / 2 ≡ n / 2 - 1 = omega (arith, even) in
    let rest = less_one low (n / 2) (sym (bit_at-suc n low) ∙ one) (λ i less. sym (bit_at-suc n i) ∙ none (suc i) (omega (arith, less))) in
    (bit_at-suc (n - 1) low ∙ ap (λ m. bit_at m low) half ∙ rest.0, λ i after. above half rest.1 i after)
  where
    above : (n - 1) / 2 ≡ n / 2 - 1 → ((i : ℕ) → low < i → bit_at (n / 2 - 1) i ≡ bit_at (n / 2) i) → (i : ℕ) → suc low < i → bit_at (n - 1) i ≡ bit_at n i
    above half rest zero after = absurd (omega (arith, after))
    above half rest (suc i) after =
        bit_at-suc (n - 1) i ∙ ap (λ m. bit_at m i) half ∙ rest i (omega (arith, after)) ∙ sym (bit_at-suc n i)

pub lowest_gone : (low n : ℕ) → bit_at n low ≡ 1 → ((i : ℕ) → i < low → bit_at n i ≡ 0) → (i : ℕ)
    → (bit_at (bit_and n (n - 1)) i ≡ 1) ↔ ((i ≢ low) × (bit_at n i ≡ 1))
lowest_gone low n one none i =
    let less = less_one low n one none in
    let both = bit_at_and n (n - 1) i in (
      λ has. (
        λ same. let gone : bit_at (n - 1) i ≡ 0 = ap (λ j. bit_at (n - 1) j) same ∙ less.0 in absurd (omega (arith, has, both, gone)),
        omega (arith, has, both, bit_at_below n i, bit_at_below (n - 1) i),
      ),
      λ had. elim (apart_cases i low had.0) [
        | inl before ↦ let zero : bit_at n i ≡ 0 = none i before in absurd (omega (arith, zero, had.1))
        | inr after ↦ omega (arith, both, had.1, less.1 i after)
      ],
    )
  where
    bit_at_below : (m j : ℕ) → bit_at m j < 2
    bit_at_below m j = omega arith

    apart_cases : (a b : ℕ) → a ≢ b → (a < b) ⊎ (b < a)
    apart_cases a b apart = by_test (nat_lt a b) refl
      where
        by_test : (c : Bool) → nat_lt a b ≡ c → (a < b) ⊎ (b < a)
        by_test true e = inl (grind (arith, nat_tests))
        by_test false e = let high : b ≤ a = grind (arith, nat_tests) in inr (by_order high)
          where
            by_order : b ≤ a → b < a
            by_order high = dite (ℕ_discrete a b) (λ same. absurd (apart same)) (λ other. omega (arith, high, other))
