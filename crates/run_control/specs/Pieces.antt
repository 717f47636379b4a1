-- The words of a line, read from the left.
use Rattle.std.specs.Prelude.{ℕ, ◌+◌, Bool, ◌==◌, List, [], ◌∷◌, drop, position, Result, Ok, Err, Option, Some, None}
use Rattle.std.specs.Prelude.{option_map, option_and_then, if◌then◌else◌}
use Rattle.std.specs.Str.{bytes_eq}
use Rattle.log_entries.specs.declared.allowance.Intake.{Intake}
use Rattle.proxy_words.specs.Numerals.{numeral}
use Rattle.log_texts.specs.Steps.{named, intake_of}
use Rattle.run_control.specs.declared.pieces.Misfit.{Misfit}
use Rattle.run_control.specs.declared.pieces.Misfit.TheVariants.{Missing, Bad}
use Rattle.run_control.specs.Misfits.{◌>>=◌}

-- the value of a word, or the misfit of the word
abbrev pub fits : {A : Type 0} → List ℕ → Option A → Result A Misfit
fits word (Some value) = Ok value
fits word None = Err (Bad word)

-- a word, and the words after it
abbrev pub word_at : List (List ℕ) → Result (List ℕ × List (List ℕ)) Misfit
word_at [] = Err Missing
word_at (word ∷ words) = Ok (word, words)

-- the words after the given word
abbrev pub fixed_at : List ℕ → List (List ℕ) → Result (List (List ℕ)) Misfit
fixed_at text [] = Err Missing
fixed_at text (word ∷ words) = if bytes_eq word text then Ok words else Err (Bad word)

-- a name, and the words after it
abbrev pub name_at : List (List ℕ) → Result (List ℕ × List (List ℕ)) Misfit
name_at [] = Err Missing
name_at (word ∷ words) = fits word (option_map (λ name. (name, words)) (named word))

abbrev pub is_slash : ℕ → Bool
is_slash byte = byte == 47

-- the name after the first slash of a word
abbrev pub named_below : List ℕ → Option (List ℕ)
named_below word = option_and_then (λ slash. named (drop (slash + 1) word)) (position is_slash word)

-- the name after a backend's name and a slash, and the words after it
abbrev pub name_below_at : List (List ℕ) → Result (List ℕ × List (List ℕ)) Misfit
name_below_at [] = Err Missing
name_below_at (word ∷ words) = fits word (option_map (λ name. (name, words)) (named_below word))

-- the number of requests that a server takes, and the words after it
abbrev pub intake_at : List (List ℕ) → Result (Intake × List (List ℕ)) Misfit
intake_at [] = Err Missing
intake_at (word ∷ words) = fits word (option_map (λ intake. (intake, words)) (intake_of word))

-- a number of at most 18 digits, and the words after it
abbrev pub millis_at : List (List ℕ) → Result (ℕ × List (List ℕ)) Misfit
millis_at [] = Err Missing
millis_at (word ∷ words) = fits word (option_map (λ number. (number, words)) (numeral 18 word))

-- the end of the line
abbrev pub end_at : List (List ℕ) → Result (Unit {0}) Misfit
end_at [] = Ok tt
end_at (word ∷ words) = Err (Bad word)
