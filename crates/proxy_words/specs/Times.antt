-- Words that are times.
use Rattle.std.specs.Prelude.{ℕ, ◌+◌, ◌*◌, ◌/◌, if◌then◌else◌, List, drop, Option, Some, None, take_while, codes}
use Rattle.std.specs.Option.{option_and_then}
use Rattle.std.specs.List.{prefix_len}
use Rattle.std.specs.Str.{bytes_eq}
use Rattle.proxy_words.specs.Numerals.{is_digit, numeral}

-- a number of a unit, in milliseconds: microseconds are rounded up, and no unit means milliseconds
abbrev pub in_milliseconds : List ℕ → ℕ → Option ℕ
in_milliseconds unit n =
    if bytes_eq unit (codes "") then Some n
    else if bytes_eq unit (codes "us") then Some ((n + 999) / 1000)
    else if bytes_eq unit (codes "ms") then Some n
    else if bytes_eq unit (codes "s") then Some (n * 1000)
    else if bytes_eq unit (codes "m") then Some (n * 60000)
    else if bytes_eq unit (codes "h") then Some (n * 3600000)
    else if bytes_eq unit (codes "d") then Some (n * 86400000)
    else None

-- the number of digits at the front of a word
abbrev pub digits_len : List ℕ → ℕ
digits_len word = prefix_len is_digit word

-- the time of a word: a number of at most nine digits, and then its unit
abbrev pub time : List ℕ → Option ℕ
time word = option_and_then (in_milliseconds (drop (digits_len word) word)) (numeral 9 (take_while is_digit word))
