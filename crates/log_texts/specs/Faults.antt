-- The first faulty line of a script.
use Rattle.std.specs.Prelude.{ℕ, ◌+◌, nat_lt, Bool, List, [], ◌∷◌, ◌++◌, length, Option, Some, None, is_some, if◌then◌else◌}
use Rattle.std.specs.List.{list_any}
use Rattle.std.specs.Str.Lines.{lines}
use Rattle.log_texts.specs.Steps.{step_of}
use Rattle.log_texts.specs.Headers.{Settings, settings_of}
use Rattle.log_texts.specs.Lines.{kind_of_line, is_fault}

-- a line asks for a step: an event, or the next window
abbrev pub is_step : List ℕ → Bool
is_step line = is_some (step_of line)

-- a line is faulty after lines with these settings, and with a step or none
abbrev pub is_faulty : Settings → Bool → List ℕ → Bool
is_faulty settings begun line = is_fault settings begun (kind_of_line line)

-- the number of the first line that is faulty after those before it, where the first lines are known to be sound
abbrev pub fault_behind : List (List ℕ) → List (List ℕ) → Option ℕ
fault_behind before [] = None
fault_behind before (line ∷ rest) =
    if is_faulty (settings_of before) (list_any is_step before) line then Some (length before + 1)
    else fault_behind (before ++ line ∷ []) rest

-- the number of a script's first faulty line; 0 where the script is too long: over 4 MiB
abbrev pub fault_of : List ℕ → Option ℕ
fault_of script = if nat_lt 4194304 (length script) then Some 0 else fault_behind [] (lines script)
