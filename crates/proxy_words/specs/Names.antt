-- Words that are names in a file.
use Rattle.std.specs.Prelude.{ℕ, Bool, ◌||◌, ◌&&◌, ◌==◌, not, nat_le, List, length, codes}
use Rattle.std.specs.List.{list_any, list_all}
use Rattle.std.specs.Char.{is_ascii_alphanumeric}

-- one of these bytes
abbrev pub is_in : List ℕ → ℕ → Bool
is_in bytes byte = list_any (λ x. x == byte) bytes

abbrev pub is_name_byte : ℕ → Bool
is_name_byte byte = is_ascii_alphanumeric byte || is_in (codes "-_.:") byte

-- the name of a section or a server
abbrev pub is_name : List ℕ → Bool
is_name word = not (length word == 0) && nat_le (length word) 32 && list_all is_name_byte word
