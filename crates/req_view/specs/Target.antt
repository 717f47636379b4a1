-- The path of a request's target.
use Rattle.std.specs.Prelude.{ℕ, List, drop, Option, Some, None, Bool, codes, if◌then◌else◌, ◌==◌}
use Rattle.std.specs.List.{list_any, starts_with, before_first, position_or_len}

abbrev pub is_slash : ℕ → Bool
is_slash byte = byte == 47

abbrev pub is_question_mark : ℕ → Bool
is_question_mark byte = byte == 63

abbrev pub is_number_sign : ℕ → Bool
is_number_sign byte = byte == 35

-- a number sign begins a fragment, which isn't a part of a request's target (RFC 9112, 3.2)
abbrev pub has_fragment : List ℕ → Bool
has_fragment target = list_any is_number_sign target

-- the target begins with these bytes
abbrev pub begins : List ℕ → List ℕ → Bool
begins prefix target = starts_with (λ a b. a == b) target prefix

-- the text before its first question mark, or all of it
abbrev pub without_query : List ℕ → List ℕ
without_query text = before_first is_question_mark text

-- the text from its first slash on; empty where it has none
abbrev pub from_slash : List ℕ → List ℕ
from_slash text = drop (position_or_len is_slash text) text

-- The path of a target that begins with a slash, or names a host after `http://` or `https://`,
-- ends before the query; after a host it begins at the first slash, and may be empty. Other
-- targets have no path.
abbrev pub path_of : List ℕ → Option (List ℕ)
path_of target =
    if begins (codes "/") target then Some (without_query target)
    else if begins (codes "http://") target then Some (from_slash (without_query (drop 7 target)))
    else if begins (codes "https://") target then Some (from_slash (without_query (drop 8 target)))
    else None
