-- What a line is, and what it asks for or sets.
use Rattle.std.proofs.Common.{◌≡◌, ℕ, Bool, true, false, List, Option, Some, None, is_some, refl}
use Rattle.std.specs.Option.{option_map_or}
use Rattle.log_texts.specs.declared.setting.Setting.{Setting}
use Rattle.log_texts.specs.declared.step.Step.{Step}
use Rattle.log_texts.specs.Faults.{is_step}
use Rattle.log_texts.specs.Headers.{Settings, setting_of}
use Rattle.log_texts.specs.Lines.{kind_by, kind_of_line, step_in}
use Rattle.log_texts.specs.Reading.{with_setting, with_line, with_kind}
use Rattle.log_texts.specs.Steps.{step_of, is_skipped}

-- what a line is says what step it asks for, and where it asks for none, what it sets
pub step_is : (line : List ℕ) → step_in (kind_of_line line) ≡ step_of line
step_is line = by_all (step_of line) (setting_of line) (is_skipped line)
  where
    by_all : (o : Option Step) (s : Option Setting) (b : Bool) → step_in (kind_by o s b) ≡ o
    by_all (Some step) s b = refl
    by_all None (Some setting) b = refl
    by_all None None true = refl
    by_all None None false = refl

pub kind_line : (header : Settings) (line : List ℕ) → is_step line ≡ false → with_kind header (kind_of_line line) ≡ with_line header line
kind_line header line = by_all (step_of line) (setting_of line) (is_skipped line)
  where
    by_all : (o : Option Step) (s : Option Setting) (b : Bool) → is_some o ≡ false
        → with_kind header (kind_by o s b) ≡ option_map_or (with_setting header) s header
    by_all (Some step) s b other = cc
    by_all None (Some setting) b other = refl
    by_all None None true other = refl
    by_all None None false other = refl
