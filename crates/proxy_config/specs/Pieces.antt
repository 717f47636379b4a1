-- The words of a line, read from the left.
use Rattle.std.specs.Prelude.{ℕ, List, [], ◌∷◌, Result, Ok, Err, nat_lt, if◌then◌else◌, Option, Some, None}
use Rattle.std.specs.Option.{option_and_then}
use Rattle.proxy_words.specs.Numerals.{numeral}
use Rattle.proxy_words.specs.Times.{time}
use Rattle.proxy_config.specs.declared.faults.FaultCause.{FaultCause}
use Rattle.proxy_config.specs.declared.faults.FaultCause.TheVariants as causes

-- a word, and the words after it
abbrev pub word_at : List (List ℕ) → Result (List ℕ × List (List ℕ)) FaultCause
word_at [] = Err causes.Words
word_at (word ∷ words) = Ok (word, words)

-- the end of the line
abbrev pub end_at : List (List ℕ) → Result (Unit {0}) FaultCause
end_at [] = Ok tt
end_at (word ∷ words) = Err causes.Words

-- a number within these bounds
abbrev pub number_in : ℕ → ℕ → List ℕ → Option ℕ
number_in least most word = option_and_then (λ n. if nat_lt n least then None else if nat_lt most n then None else Some n) (numeral 9 word)

-- a number that is at least this one
abbrev pub number_from : ℕ → List ℕ → Option ℕ
number_from least word = option_and_then (λ n. if nat_lt n least then None else Some n) (numeral 9 word)

-- a time of at least this number of milliseconds
abbrev pub time_from : ℕ → List ℕ → Option ℕ
time_from least word = option_and_then (λ t. if nat_lt t least then None else Some t) (time word)
