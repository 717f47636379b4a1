-- The definitions at worked examples: what must hold, and wrong values that must not be taken.
use Rattle.std.proofs.Common.{◌≡◌, ◌++◌, pos, negsuc, Some, None, [], ◌∷◌, codes, refl}
use Rattle.std.specs.Str.Lines.{lines}
use Rattle.proxy_words.specs.Text.{words, uncommented}
use Rattle.proxy_words.specs.Numerals.{numeral, signed_numeral}
use Rattle.proxy_words.specs.Times.{time}
use Rattle.proxy_words.specs.Parts.{parts}

-- the carriage return before a line feed is dropped, that at the end stays
lines_row : lines (codes "a" ++ (13 ∷ 10 ∷ 10 ∷ codes "b") ++ (13 ∷ [])) ≡ codes "a" ∷ [] ∷ (codes "b" ++ (13 ∷ [])) ∷ []
lines_row = refl

no_last_line : lines (codes "a" ++ (10 ∷ [])) ≡ codes "a" ∷ []
no_last_line = refl

words_row : words (32 ∷ 9 ∷ codes "server  a" ++ (9 ∷ [])) ≡ codes "server" ∷ codes "a" ∷ []
words_row = refl

no_words : words (32 ∷ 9 ∷ []) ≡ []
no_words = refl

comment_row : uncommented (codes "a#b # c") ≡ codes "a"
comment_row = refl

number_row : numeral 9 (codes "000000080") ≡ Some 80
number_row = refl

ten_digits : numeral 9 (codes "1000000000") ≡ None
ten_digits = refl

no_digits : numeral 9 (codes "") ≡ None
no_digits = refl

signed_row : signed_numeral 18 (codes "-524287") ≡ Some (negsuc 524286)
signed_row = refl

minus_zero : signed_numeral 18 (codes "-0") ≡ Some (pos 0)
minus_zero = refl

two_signs : signed_numeral 18 (codes "--1") ≡ None
two_signs = refl

rounded_up : time (codes "1500us") ≡ Some 2
rounded_up = refl

day_row : time (codes "2d") ≡ Some 172800000
day_row = refl

unknown_unit : time (codes "1x") ≡ None
unknown_unit = refl

unit_alone : time (codes "ms") ≡ None
unit_alone = refl

parts_row : parts (codes "fast , slow" ++ (9 ∷ codes ",, a b")) ≡ codes "fast" ∷ codes "slow" ∷ [] ∷ codes "a b" ∷ []
parts_row = refl

-- an empty text is one part
one_empty_part : parts (codes "") ≡ [] ∷ []
one_empty_part = refl

-- a blank within a part stays
not_cut_at_blanks : parts (codes "a b") ≡ codes "a" ∷ codes "b" ∷ [] → ⊥
not_cut_at_blanks same = cc

blanks_kept : parts (codes "a , b") ≡ codes "a " ∷ codes " b" ∷ [] → ⊥
blanks_kept same = cc
