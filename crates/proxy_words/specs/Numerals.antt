-- Words that are numbers.
use Rattle.std.specs.Prelude.{ℕ, ◌+◌, ◌-◌, ◌*◌, ◌^◌, Bool, ◌==◌, ◌&&◌, nat_le, not, if◌then◌else◌}
use Rattle.std.specs.Prelude.{List, [], ◌∷◌, length, Option, Some, None, option_map, ℤ, pos, neg_ℤ}
use Rattle.std.specs.List.{list_all}

abbrev pub is_digit : ℕ → Bool
is_digit byte = nat_le 48 byte && nat_le byte 57

-- the value of digits: each counts ten times as much as it would one place further right
abbrev pub value_of : List ℕ → ℕ
value_of [] = 0
value_of (digit ∷ digits) = (digit - 48) * 10 ^ length digits + value_of digits

-- one digit or more, and at most this number
abbrev pub is_numeral : ℕ → List ℕ → Bool
is_numeral most word = not (length word == 0) && nat_le (length word) most && list_all is_digit word

-- the number of a word of at most this number of digits
abbrev pub numeral : ℕ → List ℕ → Option ℕ
numeral most word = if is_numeral most word then Some (value_of word) else None

-- the same with or without a minus sign before it
abbrev pub signed_numeral : ℕ → List ℕ → Option ℤ
signed_numeral most [] = None
signed_numeral most (byte ∷ word) = if byte == 45 then option_map (λ n. neg_ℤ (pos n)) (numeral most word)
    else option_map pos (numeral most (byte ∷ word))
