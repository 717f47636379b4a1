-- Tests and expressions as words.
use Rattle.std.specs.Prelude.{ℕ, Bool, true, false, ◌==◌, ◌-◌, if◌then◌else◌, List, [], ◌∷◌, ◌++◌, length}
use Rattle.std.specs.Prelude.{take, drop, slice_index, Option, Some, None, option_map, Result, Ok, Err, codes}
use Rattle.std.specs.Option.{ok_or, option_and_then}
use Rattle.std.specs.Str.{bytes_eq}
use Rattle.proxy_words.specs.Numerals.{signed_numeral}
use Rattle.proxy_config.specs.declared.faults.FaultCause.{FaultCause}
use Rattle.proxy_config.specs.declared.faults.FaultCause.TheVariants as causes
use Rattle.proxy_config.specs.declared.parts.Subject.{Subject}
use Rattle.proxy_config.specs.declared.parts.Subject.TheVariants.{Path, PathBegin, PathEnd, Method, Header}
use Rattle.proxy_config.specs.declared.parts.Test.{Test}
use Rattle.proxy_config.specs.declared.parts.Expression.{Expression}
use Rattle.proxy_config.specs.declared.parts.Expression.TheVariants.{Int, HeaderValue}
use Rattle.proxy_config.specs.Outcomes.{◌>>=◌, unless}
use Rattle.proxy_config.specs.Names.{is_token}
use Rattle.proxy_config.specs.Pieces.{word_at}

-- the text after an opening text
abbrev pub behind : List ℕ → List ℕ → Option (List ℕ)
behind opening word = if bytes_eq (take (length opening) word) opening then Some (drop (length opening) word) else None

-- the text before a closing parenthesis at the end
abbrev pub before_close : List ℕ → Option (List ℕ)
before_close word = if slice_index word (length word - 1) == 41 then Some (take (length word - 1) word) else None

-- the text between an opening text and a closing parenthesis
abbrev pub enclosed : List ℕ → List ℕ → Option (List ℕ)
enclosed opening word = option_and_then before_close (behind opening word)

-- the name of a field between an opening text and a closing parenthesis
abbrev pub field_in : List ℕ → List ℕ → Option (List ℕ)
field_in opening word = option_and_then (λ name. if is_token name then Some name else None) (enclosed opening word)

abbrev pub subject_of : List ℕ → Option Subject
subject_of word =
    if bytes_eq word (codes "path") then Some Path
    else if bytes_eq word (codes "path_beg") then Some PathBegin
    else if bytes_eq word (codes "path_end") then Some PathEnd
    else if bytes_eq word (codes "method") then Some Method
    else option_map Header (field_in (codes "hdr(") word)

-- an integer between `int(` and `)`, or the name of a field between `req.hdr_val(` and `)`
abbrev pub expression_of : List ℕ → Option Expression
expression_of word = elim (enclosed (codes "int(") word) [
  | Some number ↦ option_map Int (signed_numeral 18 number)
  | None ↦ option_map HeaderValue (field_in (codes "req.hdr_val(") word)
]

-- a word that begins with `-` can't be a value
abbrev pub is_dashed : List ℕ → Bool
is_dashed [] = false
is_dashed (byte ∷ word) = byte == 45

-- the subject of a test, and whether it ignores case; its first value, and the words after that
unfoldable pub head_at : List (List ℕ) → Result (Subject × Bool × List ℕ × List (List ℕ)) FaultCause
head_at words = do
  first ← word_at words
  subject ← ok_or (subject_of first.0) causes.Condition
  second ← word_at first.1
  if bytes_eq second.0 (codes "-i") then (word_at second.1 >>= λ third. Ok (subject, true, third.0, third.1))
      else Ok (subject, false, second.0, second.1)

abbrev pub value_of : List ℕ → Result (List ℕ) FaultCause
value_of word = if is_dashed word then Err causes.Condition else Ok word

-- the values to the end of the line
abbrev pub values_to_end : List (List ℕ) → Result (List (List ℕ)) FaultCause
values_to_end [] = Ok []
values_to_end (word ∷ words) = value_of word >>= λ value. values_to_end words >>= λ more. Ok (value ∷ more)

-- a test that goes to the end of the line
unfoldable pub test_to_end : List (List ℕ) → Result Test FaultCause
test_to_end words = do
  head ← head_at words
  first ← value_of head.2
  more ← values_to_end head.3
  Ok (record { subject = head.0; ignore_case = head.1; values = first ∷ more })

abbrev pub is_brace : List ℕ → Bool
is_brace word = bytes_eq word (codes "}")

-- the values up to the closing brace, and the words after that
abbrev pub values_to_brace : List (List ℕ) → Result (List (List ℕ) × List (List ℕ)) FaultCause
values_to_brace [] = Err causes.Words
values_to_brace (word ∷ words) = if is_brace word then Ok ([], words)
    else value_of word >>= λ value. values_to_brace words >>= λ more. Ok (value ∷ more.0, more.1)

-- a test in braces, after the opening one, and the words after the closing one: its first value isn't a brace
unfoldable pub test_in_braces : List (List ℕ) → Result (Test × List (List ℕ)) FaultCause
test_in_braces words = do
  head ← head_at words
  brace ← unless (is_brace head.2) causes.Condition
  first ← value_of head.2
  more ← values_to_brace head.3
  Ok (record { subject = head.0; ignore_case = head.1; values = first ∷ more.0 }, more.1)

-- a value before the ones that are read next
abbrev pub onto : List (List ℕ) → Result (List (List ℕ)) FaultCause → Result (List (List ℕ)) FaultCause
onto front read = read >>= λ more. Ok (front ++ more)

abbrev pub onto_values : List (List ℕ) → Result (List (List ℕ) × List (List ℕ)) FaultCause → Result (List (List ℕ) × List (List ℕ)) FaultCause
onto_values front read = read >>= λ more. Ok (front ++ more.0, more.1)
