-- How great a number and a time can be that a word is.
use Rattle.std.proofs.Common.{◌≡◌, ℕ, ◌+◌, ◌-◌, ◌*◌, ◌/◌, ◌^◌, ◌<◌, ◌≤◌, ◌&&◌, not, nat_le, ◌==◌, Bool, true}
use Rattle.std.proofs.Common.{false, cond, List, [], ◌∷◌, length, drop, Option, Some, None, take_while, codes, refl, subst, arith}
use Rattle.std.specs.List.{list_all}
use Rattle.std.specs.Option.{option_and_then}
use Rattle.std.specs.Str.{bytes_eq}
use Rattle.std.proofs.Math.Nat.{pow-suc, mul-le-mul_right}
use Rattle.std.proofs.lemmas.Bool.{and_parts, leb-true}
use Rattle.std.proofs.lemmas.Bool.Decides.{nat_tests}
use Rattle.std.proofs.lemmas.Option.{same_Some}
use Rattle.proxy_words.specs.Numerals.{is_digit, value_of, is_numeral, numeral}
use Rattle.proxy_words.specs.Times.{digits_len, in_milliseconds, time}
use Rattle.proxy_words.proofs.Values.{more_digits}

one_digit : (digit : ℕ) → is_digit digit ≡ true → digit - 48 ≤ 9
one_digit digit is = grind (arith, nat_tests)

value_small : (digits : List ℕ) → list_all is_digit digits ≡ true → value_of digits < 10 ^ length digits
value_small [] all = omega arith
value_small (digit ∷ digits) all =
    let parts = and_parts (is_digit digit) (list_all is_digit digits) all in
    let rest : value_of digits < 10 ^ length digits = value_small digits parts.1 in
    let first : digit - 48 ≤ 9 = one_digit digit parts.0 in
    let most : (digit - 48) * 10 ^ length digits ≤ 9 * 10 ^ length digits = mul-le-mul_right (10 ^ length digits) first in
    rw pow-suc (omega (arith, rest, most))

pub numeral_small : (most : ℕ) (word : List ℕ) (n : ℕ) → numeral most word ≡ Some n → n < 10 ^ most
numeral_small most word n is = by_test (is_numeral most word) refl is
  where
    within : is_numeral most word ≡ true → value_of word < 10 ^ most
    within e =
        let outer = and_parts (not (length word == 0) && nat_le (length word) most) (list_all is_digit word) e in
        let short = and_parts (not (length word == 0)) (nat_le (length word) most) outer.0 in
        let few : length word ≤ most = leb-true (length word) most short.1 in
        more_digits (value_of word) (length word) most (value_small word outer.1) few

    by_test : (b : Bool) → is_numeral most word ≡ b → cond b (Some (value_of word)) None ≡ Some n → n < 10 ^ most
    by_test true e is = subst (λ k. k < 10 ^ most) (same_Some (value_of word) n is) (within e)
    by_test false e is = let none : None ≡ Some n = is in cc

-- the first of some numbers or a later one
one_of : (b : Bool) (x : ℕ) (rest : Option ℕ) (t most : ℕ) → x < most → (rest ≡ Some t → t < most) → cond b (Some x) rest ≡ Some t → t < most
one_of true x rest t most small later is = subst (λ k. k < most) (same_Some x t is) small
one_of false x rest t most small later is = later is

rounded : (n : ℕ) → n < 10 ^ 9 → (n + 999) / 1000 < 2 ^ 57
rounded n small = omega arith

milliseconds_small : (unit : List ℕ) (n t : ℕ) → n < 10 ^ 9 → in_milliseconds unit n ≡ Some t → t < 2 ^ 57
milliseconds_small unit n t small is =
    one_of (bytes_eq unit (codes "")) n _ t (2 ^ 57) (omega arith)
    (one_of (bytes_eq unit (codes "us")) ((n + 999) / 1000) _ t (2 ^ 57) (rounded n small)
    (one_of (bytes_eq unit (codes "ms")) n _ t (2 ^ 57) (omega arith)
    (one_of (bytes_eq unit (codes "s")) (n * 1000) _ t (2 ^ 57) (omega arith)
    (one_of (bytes_eq unit (codes "m")) (n * 60000) _ t (2 ^ 57) (omega arith)
    (one_of (bytes_eq unit (codes "h")) (n * 3600000) _ t (2 ^ 57) (omega arith)
    (one_of (bytes_eq unit (codes "d")) (n * 86400000) None t (2 ^ 57) (omega arith) (λ none. none_time none))))))) is
  where
    none_time : None ≡ Some t → t < 2 ^ 57
    none_time none = cc

pub time_small : (word : List ℕ) (t : ℕ) → time word ≡ Some t → t < 2 ^ 57
time_small word t is = by_number (numeral 9 (take_while is_digit word)) refl is
  where
    by_number : (o : Option ℕ) → numeral 9 (take_while is_digit word) ≡ o → option_and_then (in_milliseconds (drop (digits_len word) word)) o ≡ Some t
        → t < 2 ^ 57
    by_number None e is = let none : None ≡ Some t = is in cc
    by_number (Some n) e is = milliseconds_small (drop (digits_len word) word) n t (numeral_small 9 (take_while is_digit word) n e) is
