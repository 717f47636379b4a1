-- The exit status of a conversion.
use Rattle.std.specs.Prelude.{ℕ, List, [], ◌∷◌, Result, Ok, Err}
use Rattle.config_convert.specs.declared.settling.Conversion.{Conversion}
use Rattle.config_convert.specs.declared.settling.Unconverted.{Unconverted}
use Rattle.config_convert.specs.declared.settling.Unconverted.TheVariants.{NoMemory}
use Rattle.config_convert.specs.declared.notes.Note.{Note}

-- 0 where nothing changes, 6 where something does
abbrev pub status_of_notes : List Note → ℕ
status_of_notes [] = 0
status_of_notes (note ∷ notes) = 6

-- 1 where memory is refused, else 3
abbrev pub status_of_failure : Unconverted → ℕ
status_of_failure NoMemory = 1
status_of_failure _ = 3

abbrev pub status_of_conversion : Result Conversion Unconverted → ℕ
status_of_conversion (Ok made) = status_of_notes made.notes.items
status_of_conversion (Err why) = status_of_failure why
