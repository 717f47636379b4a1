-- The kinds of a script's lines.
use Rattle.std.specs.Prelude.{ℕ, Bool, true, false, ◌||◌, nat_le, List, length, position, Option, Some, None, is_some}
use Rattle.std.specs.Str.{bytes_eq}
use Rattle.log_texts.specs.declared.line.Line.{Line}
use Rattle.log_texts.specs.declared.line.Line.TheVariants as lines
use Rattle.log_texts.specs.declared.setting.Setting.{Setting}
use Rattle.log_texts.specs.declared.setting.Setting.TheVariants.{Server}
use Rattle.log_texts.specs.declared.step.Step.{Step}
use Rattle.log_texts.specs.Steps.{step_of, is_skipped}
use Rattle.log_texts.specs.Headers.{Settings, setting_of}

-- the kind of a line, by its step, its setting, and whether it is skipped; None where it is none of these
abbrev pub kind_by : Option Step → Option Setting → Bool → Option Line
kind_by (Some step) setting skipped = Some (lines.Step step)
kind_by None (Some setting) skipped = Some (lines.Setting setting)
kind_by None None true = Some lines.Skipped
kind_by None None false = None

abbrev pub kind_of_line : List ℕ → Option Line
kind_of_line line = kind_by (step_of line) (setting_of line) (is_skipped line)

-- the step of such a line
abbrev pub step_in : Option Line → Option Step
step_in (Some (lines.Step step)) = Some step
step_in other = None

abbrev pub is_step_line : Option Line → Bool
is_step_line kind = is_some (step_in kind)

-- one of the servers has a name
abbrev pub has_name : List (List ℕ) → List ℕ → Bool
has_name names name = is_some (position (bytes_eq name) names)

-- a setting clashes with the others: a server whose name is taken, or a 65th server
abbrev pub clashes : Settings → Setting → Bool
clashes settings (Server name server) = nat_le 64 (length settings.names) || has_name settings.names name
clashes settings other = false

-- such a line is faulty after lines with these settings, and with a step or none: it is of no
-- kind, or a header line after a step, or one that clashes
abbrev pub is_fault : Settings → Bool → Option Line → Bool
is_fault settings begun None = true
is_fault settings begun (Some (lines.Setting setting)) = begun || clashes settings setting
is_fault settings begun (Some other) = false
