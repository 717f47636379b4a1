-- The status of the answer, as the counters find it.
use Rattle.std.proofs.Common.{◌≡◌, ◌≤◌, ◌<◌, ℕ, suc, true, false, nat_lt, [], ◌∷◌, List, refl, arith, ap}
use Rattle.std.proofs.lemmas.Bool.Decides.{nat_tests}
use Rattle.exchange_driver.specs.Meters.{digit_of, number_of, appended, settles, line_then, answer_status, begun}

digit_is_small : (byte : ℕ) → digit_of byte ≤ 9
digit_is_small byte = grind arith

three : (a b c : ℕ) → appended (appended (appended 0 a) b) c ≡ number_of a b c
three a b c = omega (arith, digit_is_small a, digit_is_small b, digit_is_small c)

pub line_from_first : (more : List ℕ) → line_then 0 0 more ≡ answer_status more
line_from_first [] = refl
line_from_first (_ ∷ []) = refl
line_from_first (_ ∷ _ ∷ []) = refl
line_from_first (_ ∷ _ ∷ _ ∷ []) = refl
line_from_first (_ ∷ _ ∷ _ ∷ _ ∷ []) = refl
line_from_first (_ ∷ _ ∷ _ ∷ _ ∷ _ ∷ []) = refl
line_from_first (_ ∷ _ ∷ _ ∷ _ ∷ _ ∷ _ ∷ []) = refl
line_from_first (_ ∷ _ ∷ _ ∷ _ ∷ _ ∷ _ ∷ _ ∷ []) = refl
line_from_first (_ ∷ _ ∷ _ ∷ _ ∷ _ ∷ _ ∷ _ ∷ _ ∷ []) = refl
line_from_first (_ ∷ _ ∷ _ ∷ _ ∷ _ ∷ _ ∷ _ ∷ _ ∷ _ ∷ []) = refl
line_from_first (_ ∷ _ ∷ _ ∷ _ ∷ _ ∷ _ ∷ _ ∷ _ ∷ _ ∷ a ∷ []) = refl
line_from_first (_ ∷ _ ∷ _ ∷ _ ∷ _ ∷ _ ∷ _ ∷ _ ∷ _ ∷ a ∷ b ∷ []) = refl
line_from_first (_ ∷ _ ∷ _ ∷ _ ∷ _ ∷ _ ∷ _ ∷ _ ∷ _ ∷ a ∷ b ∷ c ∷ rest) = ap (λ (n : ℕ). settles n rest) (three a b c)

-- a digit that isn't the last one
pub line_in_digits : (at status byte : ℕ) (more : List ℕ) → 9 ≤ at → suc at < 12 → line_then (suc at) (appended status byte) more ≡ line_then at status (byte ∷ more)
line_in_digits at status byte more begun ends =
    let no : nat_lt at 9 ≡ false = grind (arith, nat_tests) in
    let yes : nat_lt (suc at) 12 ≡ true = grind (arith, nat_tests) in
    rw (no, yes) refl
