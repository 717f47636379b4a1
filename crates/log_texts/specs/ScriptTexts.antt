-- The text of a dispatcher's answers to a script.
use Rattle.std.specs.Prelude.{◌≡◌, ◌⊎◌, ℕ, pos, ◌+ℤ◌, List, [], ◌∷◌, ◌++◌, length, position, Option, Some, None, option_map}
use Rattle.std.specs.Option.{unwrap_or}
use Rattle.std.specs.Str.{bytes_eq}
use Rattle.log_entries.specs.declared.entry.Entry.{Entry}
use Rattle.log_entries.specs.declared.entry.Entry.TheVariants as entries
use Rattle.log_entries.specs.declared.refusal.Refusal.{Refusal}
use Rattle.log_entries.specs.Histories.{History, next_window, effective, refuses_arrival, refuses_done}
use Rattle.log_entries.specs.Histories.{refuses_failure, refuses_abort, refuses_tick, refuses_check, refuses_limit}
use Rattle.log_entries.specs.Legal.{AddsEvent}
use Rattle.late_cert.specs.declared.report.Report.{Report}
use Rattle.late_cert.specs.Certificates.{IsCertified}
use Rattle.log_texts.specs.Reports.{roll_text}
use Rattle.log_texts.specs.declared.step.Step.{Step}
use Rattle.log_texts.specs.declared.step.Step.TheVariants.{Arrive, Done, Fail, Abort, Tick, Check, Limit, Roll}
use Rattle.log_texts.specs.Traces.{entries_text, refusal_text}

-- the number of the server with a name; where no server has it the number of servers, which is no server's
abbrev pub server_number : List (List ℕ) → List ℕ → ℕ
server_number names name = unwrap_or (position (bytes_eq name) names) (length names)

-- the pin of a name
abbrev pub named_pin : List (List ℕ) → Option (List ℕ) → Option ℕ
named_pin names pin = option_map (server_number names) pin

-- why a step is refused now; the next window never is
abbrev pub refuses : List (List ℕ) → History → Step → Option Refusal
refuses names history (Arrive moment class offset pin) = refuses_arrival history (named_pin names pin)
refuses names history (Done moment ticket) = refuses_done history ticket
refuses names history (Fail moment ticket) = refuses_failure history ticket
refuses names history (Abort moment ticket) = refuses_abort history ticket
refuses names history (Tick moment) = refuses_tick history
refuses names history (Check moment server answered) = refuses_check history (server_number names server)
refuses names history (Limit moment server limit) = refuses_limit history (server_number names server)
refuses names history Roll = None

-- an entry is the event of a step, at the step's effective moment: an arrival is due by its offset
-- from then, and has the pin of its name; a check and a limit are of the server with its name
abbrev pub IsEventOf : List (List ℕ) → History → Step → Entry → Type 0
IsEventOf names history (Arrive moment class offset pin) (entries.Arrive at arrival) =
    (at ≡ effective history moment) × (arrival.class ≡ class) × (arrival.due ≡ (pos at +ℤ offset)) × (arrival.pin ≡ named_pin names pin)
IsEventOf names history (Done moment ticket) (entries.Done at leaver) = (at ≡ effective history moment) × (leaver ≡ ticket)
IsEventOf names history (Fail moment ticket) (entries.Fail at failed) = (at ≡ effective history moment) × (failed ≡ ticket)
IsEventOf names history (Abort moment ticket) (entries.Abort at leaver) = (at ≡ effective history moment) × (leaver ≡ ticket)
IsEventOf names history (Tick moment) (entries.Tick at) = at ≡ effective history moment
IsEventOf names history (Check moment name answered) (entries.Check at server ok) = (at ≡ effective history moment) × (server ≡ server_number names name)
    × (ok ≡ answered)
IsEventOf names history (Limit moment name limit) (entries.Limit at server most) = (at ≡ effective history moment) × (server ≡ server_number names name)
    × (most ≡ limit)
IsEventOf names history step entry = ⊥

-- a step that is refused doesn't change the history, and writes the line of its refusal
pub record IsRefused (names : List (List ℕ)) (old new : History) (step : Step) (text : List ℕ) : Type 0 where
  pub refusal : Refusal
  pub applies : refuses names old step ≡ Some refusal
  pub unchanged : new ≡ old
  pub written : text ≡ refusal_text refusal

-- a step that is accepted adds its event to the log, and writes the lines of the new entries
pub record IsAccepted (names : List (List ℕ)) (old new : History) (step : Step) (text : List ℕ) : Type 0 where
  pub event : Entry
  pub asked : IsEventOf names old step event
  pub adds : AddsEvent old new event
  pub written : text ≡ entries_text names (event ∷ adds.brought)

-- a roll begins the next window, and writes its line and those of the reports that certify the window that it ends
pub record IsRolled (names : List (List ℕ)) (old new : History) (text : List ℕ) : Type 0 where
  pub reports : List Report
  pub begins : new ≡ next_window old
  pub certified : IsCertified old reports
  pub written : text ≡ roll_text names reports

abbrev pub StepAnswers : List (List ℕ) → History → History → Step → List ℕ → Type 0
StepAnswers names old new Roll text = IsRolled names old new text
StepAnswers names old new step text = IsRefused names old new step text ⊎ IsAccepted names old new step text

-- script text: the text of each step in order, where each step finds the history that those before
-- it left, and the last one leaves this one
abbrev pub IsScriptText : List (List ℕ) → History → List Step → History → List ℕ → Type 0
IsScriptText names history [] last text = (last ≡ history) × (text ≡ [])
IsScriptText names history (step ∷ steps) last text =
    (new : History) × (front : List ℕ) × (rest : List ℕ) × StepAnswers names history new step front × (text ≡ front ++ rest)
    × IsScriptText names new steps last rest
