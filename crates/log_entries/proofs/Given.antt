-- Tickets that were given, counted.
use Rattle.std.proofs.Common.{◌≡◌, ℕ, ◌<◌, ◌≤◌, nat_le, nat_lt, ◌&&◌, Bool, true, false, cond, refl, ◌∙◌, arith}
use Rattle.std.proofs.lemmas.Bool.Decides.{nat_tests}
use Rattle.log_entries.specs.Dispatch.{IsGivenBetween}

-- 1 for a ticket that was given after a first and up to a last one, and 0 for any other
abbrev pub given_between : ℕ → ℕ → ℕ → ℕ
given_between first last ticket = cond (nat_lt first ticket && nat_le ticket last) 1 0

module _ (first last ticket : ℕ) where
  pub counted : IsGivenBetween first last ticket → given_between first last ticket ≡ 1
  counted is = let low = is.after in let high = is.up_to in grind (arith, nat_tests)

  pub given : 0 < given_between first last ticket → IsGivenBetween first last ticket
  given some = record { after = grind (arith, nat_tests); up_to = grind (arith, nat_tests) }

  -- as often as it was given
  pub one : (count : ℕ) → count ≡ given_between first last ticket → IsGivenBetween first last ticket → count ≡ 1
  one count same is = same ∙ counted is

  pub one_given : (count : ℕ) → count ≤ given_between first last ticket → 0 < count → IsGivenBetween first last ticket
  one_given count at_most some = given (omega arith)

  pub at_most_one : (count : ℕ) → count ≤ given_between first last ticket → count ≤ 1
  at_most_one count at_most = grind (arith, nat_tests)

  -- and the other way round
  pub at_most_given : (count : ℕ) → count ≤ 1 → (0 < count → IsGivenBetween first last ticket) → count ≤ given_between first last ticket
  at_most_given count few is = by_test (nat_lt 0 count) refl
    where
      by_test : (b : Bool) → nat_lt 0 count ≡ b → count ≤ given_between first last ticket
      by_test true e = let it = counted (is (grind (arith, nat_tests))) in omega arith
      by_test false e = let none : count ≤ 0 = grind (arith, nat_tests) in omega arith
