-- Reading digits one by one gives their value.
use Rattle.std.proofs.Common.{◌≡◌, ℕ, suc, ◌+◌, ◌-◌, ◌*◌, ◌^◌, ◌<◌, ◌≤◌, ◌∙◌, true, List, ◌∷◌, length, drop, get_or, sym, ap, arith, add-one}
use Rattle.std.specs.List.{list_all}
use Rattle.std.proofs.Math.Nat.{pow-suc, pow-le-pow_right}
use Rattle.std.proofs.Math.Seq.{drop-cons}
use Rattle.std.proofs.lemmas.List.Sums.{AllPass-from_list_all}
use Rattle.std.proofs.lemmas.Bool.Decides.{nat_tests}
use Rattle.proxy_words.specs.Numerals.{is_digit, value_of}

-- the next digit moves what was read one place up
value_of-cons : (n digit : ℕ) (digits : List ℕ)
    → (n * 10 + (digit - 48)) * 10 ^ length digits + value_of digits ≡ n * 10 ^ length (digit ∷ digits) + value_of (digit ∷ digits)
value_of-cons n digit digits = rw pow-suc (omega arith)

pub value_of-drop : (digits : List ℕ) (i n : ℕ) → i < length digits
    → n * 10 ^ length (drop i digits) + value_of (drop i digits) ≡ value_of digits
    → (n * 10 + (get_or digits i 0 - 48)) * 10 ^ length (drop (i + 1) digits) + value_of (drop (i + 1) digits) ≡ value_of digits
value_of-drop digits i n below so_far =
    rw add-one (value_of-cons n (get_or digits i 0) (drop (suc i) digits)
    ∙ ap (λ left. n * 10 ^ length left + value_of left) (sym (drop-cons digits i 0 below)) ∙ so_far)

-- a digit counts less than ten
pub digit_below : (digits : List ℕ) (i : ℕ) → list_all is_digit digits ≡ true → i < length digits → get_or digits i 0 - 48 < 10
digit_below digits i all below =
    let here : is_digit (get_or digits i 0) ≡ true = AllPass-from_list_all is_digit digits all i 0 below in
    grind (arith, nat_tests)

-- a number of less than eighteen digits leaves room for one more
pub room_for_digit : (n i most : ℕ) → n < 10 ^ i → i < most → most ≤ 18 → n < 10 ^ 17
room_for_digit n i most small below few =
    let within : i ≤ 17 = omega arith in
    let power : 10 ^ i ≤ 10 ^ 17 = pow-le-pow_right (omega arith) within in
    omega arith

-- with a digit more there is one power of ten more
pub pow-digit : (n digit i : ℕ) → n < 10 ^ i → digit < 10 → n * 10 + digit < 10 ^ (i + 1)
pow-digit n digit i small one = rw (add-one, pow-suc) (omega arith)

pub more_digits : (n i most : ℕ) → n < 10 ^ i → i ≤ most → n < 10 ^ most
more_digits n i most small few =
    let power : 10 ^ i ≤ 10 ^ most = pow-le-pow_right (omega arith) few in
    omega arith
