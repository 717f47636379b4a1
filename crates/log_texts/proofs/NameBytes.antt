-- A name is text.
use Rattle.std.proofs.Common.{◌≡◌, ℕ, ◌<◌, true, List, length, arith, inl, inr, subst, sym}
use Rattle.std.proofs.lemmas.List.{get_or_past}
use Rattle.std.proofs.lemmas.List.Sums.{AllPass-from_list_all}
use Rattle.std.proofs.lemmas.Bool.{cases_lt}
use Rattle.std.proofs.lemmas.Bool.Decides.{nat_tests}
use Rattle.std.proofs.lemmas.Str.{IsUtf8-from_ascii}
use Rattle.std.specs.List.{list_all}
use Rattle.std.specs.Str.{IsUtf8}
use Rattle.proxy_words.specs.Names.{is_name, is_name_byte}

name_byte_is_ascii : (byte : ℕ) → is_name_byte byte ≡ true → byte < 128
name_byte_is_ascii byte is = grind (arith, nat_tests)

pub name_is_utf8 : (word : List ℕ) → is_name word ≡ true → IsUtf8 word
name_is_utf8 word is =
    let all : list_all is_name_byte word ≡ true = grind arith in
    IsUtf8-from_ascii word (λ i.
    elim (cases_lt i (length word)) [
      | inl below ↦ name_byte_is_ascii _ (AllPass-from_list_all is_name_byte word all i 0 below)
      | inr past ↦ subst (λ n. n < 128) (sym (get_or_past word i 0 past)) (omega arith)
    ])
