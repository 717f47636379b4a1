-- The settings of a server.
use Rattle.std.specs.Prelude.{ℕ, Bool, true, false, if◌then◌else◌, List, [], ◌∷◌, Option, Some, None, Result, Ok, Err, codes}
use Rattle.std.specs.Option.{ok_or}
use Rattle.std.specs.Str.{bytes_eq}
use Rattle.proxy_words.specs.Numerals.{numeral}
use Rattle.proxy_config.specs.declared.faults.FaultCause.{FaultCause}
use Rattle.proxy_config.specs.declared.faults.FaultCause.TheVariants as causes
use Rattle.proxy_config.specs.declared.settings.Settings.{Settings}
use Rattle.proxy_config.specs.declared.settings.Setting.{Setting}
use Rattle.proxy_config.specs.declared.settings.Setting.TheVariants.{Weight, Maxconn, Maxqueue, Inter, Rise, Fall}
use Rattle.proxy_config.specs.declared.parts.Checks.{Checks}
use Rattle.proxy_config.specs.Outcomes.{◌>>=◌}
use Rattle.proxy_config.specs.Pieces.{number_in, number_from, time_from}

-- the settings of a line that sets none
abbrev pub built_in : Settings
built_in = record { weight = 1; maxconn = 0; maxqueue = 0; check = false; inter = 2000; rise = 2; fall = 3 }

abbrev pub is_check : List ℕ → Bool
is_check word = bytes_eq word (codes "check")

abbrev pub setting_of : List ℕ → Option Setting
setting_of word =
    if bytes_eq word (codes "weight") then Some Weight
    else if bytes_eq word (codes "maxconn") then Some Maxconn
    else if bytes_eq word (codes "maxqueue") then Some Maxqueue
    else if bytes_eq word (codes "inter") then Some Inter
    else if bytes_eq word (codes "rise") then Some Rise
    else if bytes_eq word (codes "fall") then Some Fall
    else None

-- the settings with this one set to the word's value
abbrev pub set : Setting → List ℕ → Settings → Result Settings FaultCause
set Weight word s = ok_or (number_in 0 256 word) causes.Number >>= λ n. Ok (record s { weight = n })
set Maxconn word s = ok_or (numeral 9 word) causes.Number >>= λ n. Ok (record s { maxconn = n })
set Maxqueue word s = ok_or (numeral 9 word) causes.Number >>= λ n. Ok (record s { maxqueue = n })
set Inter word s = ok_or (time_from 1 word) causes.Number >>= λ t. Ok (record s { inter = t })
set Rise word s = ok_or (number_from 1 word) causes.Number >>= λ n. Ok (record s { rise = n })
set Fall word s = ok_or (number_from 1 word) causes.Number >>= λ n. Ok (record s { fall = n })

-- the settings of a line, one after the other: where one is repeated, the last one counts
abbrev pub settings : Settings → List (List ℕ) → Result Settings FaultCause
settings s [] = Ok s
settings s (word ∷ []) = if is_check word then Ok (record s { check = true })
    else ok_or (setting_of word) causes.Keyword >>= λ setting. Err causes.Words
settings s (word ∷ value ∷ words) = if is_check word then settings (record s { check = true }) (value ∷ words)
    else ok_or (setting_of word) causes.Keyword >>= λ setting. set setting value s >>= λ next. settings next words

-- how the server is checked, if at all
abbrev pub checks : Settings → Option Checks
checks s = if s.check then Some (record { inter = s.inter; rise = s.rise; fall = s.fall }) else None
