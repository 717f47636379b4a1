-- The trace of a script.
use Rattle.std.specs.Prelude.{◌≡◌, ℕ, List, ◌++◌, None}
use Rattle.std.specs.Str.Lines.{lines}
use Rattle.log_entries.specs.Histories.{History}
use Rattle.late_cert.specs.declared.report.Report.{Report}
use Rattle.log_texts.specs.declared.step.Step.{Step}
use Rattle.late_cert.specs.Certificates.{IsCertified}
use Rattle.log_texts.specs.Faults.{fault_of}
use Rattle.log_texts.specs.Headers.{Settings, settings_of}
use Rattle.log_texts.specs.Reports.{reports_text}
use Rattle.log_texts.specs.ScriptTexts.{IsScriptText}
use Rattle.log_texts.specs.Steps.{steps_of}
use Rattle.replay.specs.Defaults.{names_of, opening}

-- the result of the steps of a faultless script: the names of the servers, the dispatcher's last
-- window, and the lines of the steps
pub record AreReplayed (script : List ℕ) (names : List (List ℕ)) (last : History) (text : List ℕ) : Type 0 where
  pub faultless : fault_of script ≡ None
  pub named : names ≡ names_of (settings_of (lines script))
  pub answered : IsScriptText names (opening (settings_of (lines script))) (steps_of script) last text

-- the trace of steps under these settings: a text of the steps' lines, in which each roll has the
-- lines of the reports that certify the window it ends, and after it the lines of the reports that
-- certify the last window
pub record IsTraceFrom (settings : Settings) (steps : List Step) (text : List ℕ) : Type 0 where
  pub last : History
  pub answers : List ℕ
  pub reports : List Report
  pub answered : IsScriptText (names_of settings) (opening settings) steps last answers
  pub certified : IsCertified last reports
  pub written : text ≡ answers ++ reports_text (names_of settings) reports

-- the trace of a script: that of its steps, under the settings of its header lines
abbrev pub IsTraceOf : List ℕ → List ℕ → Type 0
IsTraceOf script text = IsTraceFrom (settings_of (lines script)) (steps_of script) text
