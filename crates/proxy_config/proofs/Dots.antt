-- A word with more than three dots is no IPv4 address.
use Rattle.std.proofs.Common.{◌≡◌, ◌==◌, ◌&&◌, ◌∙◌, ℕ, ◌<◌, false, cond, List, ◌∷◌, length, map, Some, None, sym, ap, arith}
use Rattle.std.specs.List.{list_all, slice_split}
use Rattle.std.proofs.lemmas.List.Splits.{length-slice_split}
use Rattle.std.proofs.lemmas.Bool.Decides.{nat_tests}
use Rattle.proxy_words.specs.Numerals.{value_of}
use Rattle.proxy_config.specs.Addresses.{ip, is_dot, is_octet}

above_four : (n : ℕ) → 4 < n → (n == 4) ≡ false
above_four n more = grind (arith, nat_tests)

pub ip-five : (word a after_a b after_b c after_c d after_d : List ℕ) → slice_split is_dot word ≡ a ∷ slice_split is_dot after_a
    → slice_split is_dot after_a ≡ b ∷ slice_split is_dot after_b → slice_split is_dot after_b ≡ c ∷ slice_split is_dot after_c
    → slice_split is_dot after_c ≡ d ∷ slice_split is_dot after_d → None ≡ ip word
ip-five word a after_a b after_b c after_c d after_d first second third fourth =
    let parts : slice_split is_dot word ≡ a ∷ b ∷ c ∷ d ∷ slice_split is_dot after_d = first
    ∙ ap (λ x. a ∷ x) (second ∙ ap (λ x. b ∷ x) (third ∙ ap (λ x. c ∷ x) fourth)) in
    let more : 4 < length (slice_split is_dot word) = omega (arith, ap length parts, length-slice_split is_dot after_d) in
    sym (ap (λ test. cond (test && list_all is_octet (slice_split is_dot word)) (Some (map value_of (slice_split is_dot word))) None)
    (above_four (length (slice_split is_dot word)) more))
