-- Sets of servers as the bits of a number.
use Rattle.std.proofs.Common.{◌≡◌, ◌≢◌, ◌==◌, ℕ, zero, suc, ◌*◌, ◌^◌, ◌<◌, ◌≤◌, ◌/◌, ◌%◌, nat_lt, bit_or}
use Rattle.std.proofs.Common.{Bool, true, false, w64, refl, sym, ap, ◌∙◌, arith, ◌↔◌, ◌⊎◌, inl, inr}
use Rattle.std.specs.Int.{bit_at}
use Rattle.std.proofs.lemmas.Bool.Decides.{Decides-eqb, nat_tests}
use Rattle.std.proofs.lemmas.Nat.Bits.{bit_at_lowest, bit_at-suc, bit_at-lt, bit_at-zero, bit_at_above, bit_at_set_same, bit_at_set_other}
use Rattle.server_pick.specs.Sets.{has, IsIn}

-- a number without a bit is 0
no_bits_below : (most n : ℕ) → n ≤ most → ((i : ℕ) → bit_at n i ≡ 1 → ⊥) → n ≡ 0
no_bits_below zero n small none = omega arith
no_bits_below (suc most) n small none =
    let low : n % 2 ≡ bit_at n 0 = sym (bit_at_lowest n) in
    let even : n % 2 ≡ 0 = let not_one = none 0 in let below = bit_at-lt n 0 in by_bit (bit_at n 0) refl below in
    let half : n / 2 ≡ 0 = no_bits_below most (n / 2) (omega arith) (λ i set. none (suc i) (bit_at-suc n i ∙ set)) in
    omega arith
  where
    by_bit : (b : ℕ) → bit_at n 0 ≡ b → b < 2 → n % 2 ≡ 0
    by_bit zero e below = sym (bit_at_lowest n) ∙ e
    by_bit (suc zero) e below = absurd (none 0 e)
    by_bit (suc (suc b)) e below = absurd (omega arith)

pub no_bits : (n : ℕ) → ((i : ℕ) → bit_at n i ≡ 1 → ⊥) → n ≡ 0
no_bits n none = no_bits_below n n (omega arith) none

-- a set is empty where its marks are 0
pub is_empty : (marks : ℕ) → (marks == 0) ≡ true ↔ ((server : ℕ) → IsIn marks server → ⊥)
is_empty marks = (
  (λ none server own. let zeros : marks ≡ 0 = (Decides-eqb marks 0).0 none in
      let bit : bit_at marks server ≡ 1 = (Decides-eqb (bit_at marks server) 1).0 own in
      let off : bit_at marks server ≡ 0 = ap (λ n. bit_at n server) zeros ∙ bit_at-zero server in
      absurd (omega arith)),
  (λ none. (Decides-eqb marks 0).1 (no_bits marks (λ i bit. none i ((Decides-eqb (bit_at marks i) 1).1 bit)))),
)

-- no server from 64 on is in a set
pub none_above : (marks server : ℕ) → marks < 2 ^ 64 → nat_lt server 64 ≡ false → has marks server ≡ false
none_above marks server fits above = ap (λ n. n == 1) (bit_at_above marks 64 server fits (grind (arith, nat_tests, above)))

-- a server's bit is set, and no other changes
pub one_more : (marks server : ℕ) → server < 64 → (other : ℕ) → IsIn (bit_or marks (1 * 2 ^ server % 2 ^ 64)) other ↔ (IsIn marks other ⊎ (other ≡ server))
one_more marks server within other = by_number (other == server) refl
  where
    by_number : (b : Bool) → (other == server) ≡ b → IsIn (bit_or marks (1 * 2 ^ server % 2 ^ 64)) other ↔ (IsIn marks other ⊎ (other ≡ server))
    by_number true e =
        let same : other ≡ server = (Decides-eqb other server).0 e in
        ((λ own. inr same), (λ either. ap (λ n. n == 1) (ap (bit_at (bit_or marks (1 * 2 ^ server % 2 ^ 64))) same ∙ bit_at_set_same w64 marks server within)))
    by_number false e =
        let differs : other ≢ server = (λ same. let yes : (other == server) ≡ true = (Decides-eqb other server).1 same in cc) in
        let kept : has (bit_or marks (1 * 2 ^ server % 2 ^ 64)) other ≡ has marks other =
        ap (λ n. n == 1) (bit_at_set_other w64 marks server within other differs) in
        ((λ own. inl (sym kept ∙ own)), (λ either. elim either [ inl own ↦ kept ∙ own | inr same ↦ absurd (differs same) ]))
