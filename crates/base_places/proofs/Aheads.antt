-- Walks over a block of a set.
use Rattle.std.proofs.Common.{◌≡◌, ◌≢◌, ℕ, ◌+◌, ◌-◌, ◌*◌, ◌/◌, ◌%◌, ◌^◌, ◌<◌, ◌≤◌, ◌↔◌, List, slice_index, bit_and, w64, refl, ap, sym, ◌∙◌, arith}
use Rattle.std.proofs.Common.{Bool, true, false, nat_lt}
use Rattle.std.proofs.lemmas.Bool.Decides.{nat_tests}
use Rattle.std.specs.Int.{bit_at, trailing_zeros}
use Rattle.std.proofs.lemmas.Nat.Bits.{bit_at-trailing_zeros, bit_at_above}
use Rattle.base_places.specs.Sets.{Has, Ahead, HasAhead, IsFirstAhead}
use Rattle.base_places.proofs.Bits.{lowest_gone, parted}

-- a bit of a word is one of its 64
low_bit : (n b : ℕ) → n < 2 ^ 64 → bit_at n b ≡ 1 → b < 64
low_bit n b fits one = by_test (nat_lt b 64) refl
  where
    by_test : (c : Bool) → nat_lt b 64 ≡ c → b < 64
    by_test true e = grind (arith, nat_tests)
    by_test false e =
        let high : 64 ≤ b = grind (arith, nat_tests) in
        let none : bit_at n b ≡ 0 = bit_at_above n 64 b fits high in
        absurd (omega (arith, none, one))

module _ (ahead : Ahead) (some : 0 < ahead.bits) (fits : ahead.bits < 2 ^ 64) where
  abbrev lowest : ℕ
  lowest = trailing_zeros w64 ahead.bits

  at_lowest : (place : ℕ) → place ≡ ahead.first + lowest → place - ahead.first ≡ lowest
  at_lowest place same = omega (arith, same)

  pub first_ahead : ahead.first ≤ 4032 → IsFirstAhead ahead (ahead.first + trailing_zeros w64 ahead.bits)
  first_ahead low =
      let it = bit_at-trailing_zeros w64 ahead.bits some fits in record {
        in_range = omega (arith, low, it.0);
        there = (omega arith, ap (λ b. bit_at ahead.bits b) (at_lowest (ahead.first + lowest) refl) ∙ it.1);
        first = λ other has. by_test other has (nat_lt other (ahead.first + lowest)) refl;
      }
    where
      by_test : (other : ℕ) → HasAhead ahead other → (c : Bool) → nat_lt other (ahead.first + lowest) ≡ c → ahead.first + lowest ≤ other
      by_test other has true e =
          let less : other < ahead.first + lowest = grind (arith, nat_tests) in
          let zero : bit_at ahead.bits (other - ahead.first) ≡ 0 =
          (bit_at-trailing_zeros w64 ahead.bits some fits).2 (other - ahead.first) (omega (arith, less, has.0)) in
          absurd (omega (arith, zero, has.1))
      by_test other has false e = grind (arith, nat_tests)

  pub later_ahead : (place : ℕ) → HasAhead (record { first = ahead.first; bits = bit_and ahead.bits (ahead.bits - 1) }) place
      ↔ ((place ≢ ahead.first + trailing_zeros w64 ahead.bits) × HasAhead ahead place)
  later_ahead place =
      let it = bit_at-trailing_zeros w64 ahead.bits some fits in
      let less = lowest_gone lowest ahead.bits it.1 it.2 (place - ahead.first) in (
        λ has. let both = less.0 has.1 in (λ same. both.0 (at_lowest place same), (has.0, both.1)),
        λ had. (had.1.0, less.1 (λ same. had.0 (omega (arith, same, had.1.0)), had.1.1)),
      )

-- those of one word
pub block_ahead : (words : List ℕ) (number : ℕ) → slice_index words number < 2 ^ 64 → (place : ℕ)
    → HasAhead (record { first = number * 64; bits = slice_index words number }) place ↔ ((place / 64 ≡ number) × Has words place)
block_ahead words number fits place = (
  λ has.
      let low = low_bit (slice_index words number) (place - number * 64) fits has.1 in
      let at : place / 64 ≡ number = omega (arith, has.0, low) in
      let bit : place % 64 ≡ place - number * 64 = omega (arith, has.0, low) in
      (at, ap (λ w. bit_at (slice_index words w) (place % 64)) at ∙ ap (λ b. bit_at (slice_index words number) b) bit ∙ has.1),
  λ had.
      let bit : place % 64 ≡ place - number * 64 = omega (arith, parted place, had.0) in (
        omega (arith, parted place, had.0),
        sym (ap (λ w. bit_at (slice_index words w) (place % 64)) had.0 ∙ ap (λ b. bit_at (slice_index words number) b) bit) ∙ had.1,
      ),
)
