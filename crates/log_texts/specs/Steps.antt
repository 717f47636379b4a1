-- The steps of a script's lines.
use Rattle.std.specs.Prelude.{ℕ, Bool, true, false, ◌==◌, ◌||◌, List, [], ◌∷◌, length}
use Rattle.std.specs.Prelude.{filter_map, Option, Some, None, option_map, option_and_then, slice_index, if◌then◌else◌, codes}
use Rattle.std.specs.Str.{bytes_eq}
use Rattle.std.specs.Str.Lines.{lines}
use Rattle.due_key.specs.Range.{nearest}
use Rattle.due_key.specs.declared.class.TheConstants.{LOWEST_CLASS, HIGHEST_CLASS}
use Rattle.due_key.specs.declared.offset.TheConstants.{LOWEST_OFFSET, HIGHEST_OFFSET}
use Rattle.proxy_words.specs.Text.{words}
use Rattle.proxy_words.specs.Names.{is_name}
use Rattle.proxy_words.specs.Numerals.{numeral, signed_numeral}
use Rattle.log_entries.specs.declared.allowance.Intake.{Intake}
use Rattle.log_entries.specs.declared.allowance.Intake.TheVariants.{Open, Closed}
use Rattle.log_texts.specs.declared.step.Step.{Step}
use Rattle.log_texts.specs.declared.step.Step.TheVariants.{Arrive, Done, Fail, Abort, Tick, Check, Limit, Roll}

-- the only word
abbrev pub only : List (List ℕ) → Option (List ℕ)
only (word ∷ []) = Some word
only others = None

-- a word that is a name
abbrev pub named : List ℕ → Option (List ℕ)
named word = if is_name word then Some word else None

-- an arrival at a moment, with its class and its offset, each the nearer end where it is out of range, and its pin
abbrev pub arrival_of : List ℕ → List ℕ → List ℕ → Option (List ℕ) → Option Step
arrival_of moment class offset pin =
    option_and_then (λ at. option_and_then (λ rank.
    option_map (λ shift. Arrive at (nearest LOWEST_CLASS HIGHEST_CLASS rank) (nearest LOWEST_OFFSET HIGHEST_OFFSET shift) pin) (signed_numeral 18 offset))
    (signed_numeral 18 class)) (numeral 18 moment)

-- the same by the words after `arrive`: a third one names the server of the pin
abbrev pub arrival_line : List ℕ → List (List ℕ) → Option Step
arrival_line moment (class ∷ offset ∷ []) = arrival_of moment class offset None
arrival_line moment (class ∷ offset ∷ pin ∷ []) = option_and_then (λ name. arrival_of moment class offset (Some name)) (named pin)
arrival_line moment others = None

-- a moment, and the ticket of the only word after an event's name
abbrev pub ticketed : List ℕ → List (List ℕ) → Option (ℕ × ℕ)
ticketed moment others = option_and_then (λ at. option_and_then (λ word. option_map (λ ticket. (at, ticket)) (numeral 18 word)) (only others))
    (numeral 18 moment)

-- the return of a slot at a moment, by the word after `done`: the ticket
abbrev pub return_of : List ℕ → List (List ℕ) → Option Step
return_of moment others = option_map (λ it. Done it.0 it.1) (ticketed moment others)

-- a connection that failed at a moment, by the word after `fail`: the ticket
abbrev pub failure_of : List ℕ → List (List ℕ) → Option Step
failure_of moment others = option_map (λ it. Fail it.0 it.1) (ticketed moment others)

-- a client that gave up at a moment, by the word after `abort`: the ticket
abbrev pub abort_of : List ℕ → List (List ℕ) → Option Step
abort_of moment others = option_map (λ it. Abort it.0 it.1) (ticketed moment others)

-- time that passed up to a moment: no word stands after `tick`
abbrev pub tick_of : List ℕ → List (List ℕ) → Option Step
tick_of moment [] = option_map Tick (numeral 18 moment)
tick_of moment others = None

-- the result of a check: `up` for a success, `down` for a failure
abbrev pub result_of : List ℕ → Option Bool
result_of word = if bytes_eq word (codes "up") then Some true else if bytes_eq word (codes "down") then Some false else None

-- a check at a moment, by the words after `check`: the server's name, and the result
abbrev pub check_of : List ℕ → List (List ℕ) → Option Step
check_of moment (server ∷ result ∷ []) = option_and_then
    (λ at. option_and_then (λ name. option_map (λ answered. Check at name answered) (result_of result)) (named server)) (numeral 18 moment)
check_of moment others = None

-- the number of requests that a server takes, by a word: `closed` for none, otherwise the most at once
abbrev pub intake_of : List ℕ → Option Intake
intake_of word = if bytes_eq word (codes "closed") then Some Closed else option_map Open (numeral 9 word)

-- a new limit at a moment, by the words after `limit`: the server's name, and the number of
-- requests that it takes
abbrev pub limit_step : List ℕ → List (List ℕ) → Option Step
limit_step moment (server ∷ limit ∷ []) = option_and_then
    (λ at. option_and_then (λ name. option_map (λ intake. Limit at name intake) (intake_of limit)) (named server)) (numeral 18 moment)
limit_step moment others = None

-- the next window, by the only word of the line
abbrev pub roll_of : List ℕ → Option Step
roll_of word = if bytes_eq word (codes "roll") then Some Roll else None

-- what a word and the words behind it say, by a table that has for each word how those behind it are read: nothing where
-- the table doesn't have the word
abbrev pub said_by : {A : Type 0} → List (List ℕ × (List (List ℕ) → Option A)) → List ℕ → List (List ℕ) → Option A
said_by [] word others = None
said_by (row ∷ rows) word others = if bytes_eq word row.0 then row.1 others else said_by rows word others

-- the events at a moment, by their names
abbrev pub events_at : List ℕ → List (List ℕ × (List (List ℕ) → Option Step))
events_at moment =
    (codes "arrive", arrival_line moment)
    ∷ (codes "done", return_of moment)
    ∷ (codes "fail", failure_of moment)
    ∷ (codes "abort", abort_of moment)
    ∷ (codes "tick", tick_of moment)
    ∷ (codes "check", check_of moment)
    ∷ (codes "limit", limit_step moment)
    ∷ []

-- the step that a line's words ask for: the next window, by a word alone; or an event, by its moment, its name and what
-- stands behind that
abbrev pub asked_by : List (List ℕ) → Option Step
asked_by (word ∷ []) = roll_of word
asked_by (moment ∷ name ∷ others) = said_by (events_at moment) name others
asked_by others = None

-- the step that a line asks for, if it asks for one
abbrev pub step_of : List ℕ → Option Step
step_of line = asked_by (words line)

-- a line that is skipped: it has no word, or its first byte is a number sign
abbrev pub is_skipped : List ℕ → Bool
is_skipped line = (length (words line) == 0) || (slice_index line 0 == 35)

-- the steps of a script, in order
abbrev pub steps_of : List ℕ → List Step
steps_of script = filter_map step_of (lines script)
