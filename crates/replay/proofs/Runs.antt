-- A run of a script, step by step.
use Rattle.std.proofs.Common.{◌≡◌, ◌≢◌, ◌⊎◌, ℕ, ℤ, pos, ◌+ℤ◌, ◌-◌, List, ◌∷◌, ◌++◌, length, take, drop, filter_map, Option, Some, None, refl}
use Rattle.std.proofs.Common.{sym, ap, subst, ◌∙◌, take_all, drop_at, length-drop, arith, Result, Ok, Err, IfOk, IfErr, OnOk, OnErr, IsOk}
use Rattle.std.proofs.Common.{inl, inr, true≢false}
use Rattle.std.specs.List.{cons_option}
use Rattle.dispatch_core.specs.declared.event.Event.{Event}
use Rattle.dispatch_core.specs.declared.event.Event.TheVariants as events
use Rattle.dispatch_core.specs.Occurrences as occurrences
use Rattle.dispatch_core.specs.Occurrences.{entry_of}
use Rattle.log_entries.specs.declared.entry.Entry.{Entry}
use Rattle.log_entries.specs.declared.entry.Entry.TheVariants as entries
use Rattle.log_entries.specs.declared.refusal.Refusal.{Refusal}
use Rattle.log_entries.specs.declared.refusal.Refusal.TheVariants.{NoMemory}
use Rattle.log_entries.specs.Histories.{History, effective, refuses_arrival, RefusedOrNoMemory}
use Rattle.log_entries.specs.Legal.{AddsEvent}
use Rattle.dispatch_state.specs.declared.position.Ticketed.{Ticketed}
use Rattle.log_texts.specs.declared.step.Step.{Step}
use Rattle.log_texts.specs.declared.step.Step.TheVariants.{Arrive, Done, Fail, Abort, Tick, Check, Limit, Roll}
use Rattle.log_texts.specs.Steps.{step_of}
use Rattle.log_texts.specs.ScriptTexts.{server_number, named_pin, refuses, StepAnswers, IsAccepted, IsEventOf, IsRefused, IsScriptText}
use Rattle.log_texts.specs.Traces.{entries_text, refusal_text}
use Rattle.replay.specs.declared.fault.Fault.{Fault}
use Rattle.replay.specs.declared.call.Call.TheVariants as asks
use Rattle.replay.specs.Calls.{by_numbers}

-- what is new at the end of a list
pub new_part : {X : Type 0} (old new more : List X) (before : ℕ) → new ≡ old ++ more → before ≡ length old → drop before new ≡ more
new_part old new more before grown long = ap (drop before) grown ∙ drop_at old more before (sym long)

-- all that is behind a number of items
pub all_behind : {X : Type 0} (items : List X) (before : ℕ) → take (length items - before) (drop before items) ≡ drop before items
all_behind items before =
    let all : length (drop before items) ≡ length items - before = length-drop before items in
    take_all (length items - before) (drop before items) (omega arith)

-- the steps of lines of which the first asks for one
pub steps_from_line : (line : List ℕ) (lines rest : List (List ℕ)) (asked : Option Step) (step : Step) → lines ≡ line ∷ rest → asked ≡ step_of line
    → asked ≡ Some step → filter_map step_of lines ≡ step ∷ filter_map step_of rest
steps_from_line line lines rest asked step cut is some = ap (filter_map step_of) cut ∙ ap (λ o. cons_option o (filter_map step_of rest)) (sym is ∙ some)

-- and of which it asks for none
pub steps_past_line : (line : List ℕ) (lines rest : List (List ℕ)) (asked : Option Step) → lines ≡ line ∷ rest → asked ≡ step_of line → asked ≡ None
    → filter_map step_of lines ≡ filter_map step_of rest
steps_past_line line lines rest asked cut is none = ap (filter_map step_of) cut ∙ ap (λ o. cons_option o (filter_map step_of rest)) (sym is ∙ none)

-- a text of the first step, and then one of the others, is a text of all
pub text_from_step : (names : List (List ℕ)) (old new last : History) (step : Step) (all others : List Step) (front rest : List ℕ) → all ≡ step ∷ others
    → StepAnswers names old new step front → IsScriptText names new others last rest → IsScriptText names old all last (front ++ rest)
text_from_step names old new last step all others front rest cut answers more =
    subst (λ (steps : List Step). IsScriptText names old steps last (front ++ rest)) (sym cut) (new, front, rest, answers, refl, more)

-- what a success that is kept says
pub kept_then : {A B E F : Type 0} (kept : Result A E) (written : Result B F) (P Q : Type 0) → OnOk kept (IsOk written) → OnOk written P → (P → Q) → OnOk kept Q
kept_then (Err fault) written P Q was_ok holds then' = tt
kept_then (Ok x) (Ok y) P Q was_ok holds then' = then' holds
kept_then (Ok x) (Err error) P Q was_ok holds then' = absurd (true≢false (sym was_ok))

-- any step but a roll is refused or accepted
event_answered : (names : List (List ℕ)) (old new : History) (step : Step) (text : List ℕ) → step ≢ Roll
    → IsRefused names old new step text ⊎ IsAccepted names old new step text → StepAnswers names old new step text
event_answered names old new (Arrive moment class offset pin) text event is = is
event_answered names old new (Done moment ticket) text event is = is
event_answered names old new (Fail moment ticket) text event is = is
event_answered names old new (Abort moment ticket) text event is = is
event_answered names old new (Tick moment) text event is = is
event_answered names old new (Check moment server answered) text event is = is
event_answered names old new (Limit moment server limit) text event is = is
event_answered names old new Roll text event is = absurd (event refl)

-- what was told of an answer: the entries behind so many, or the refusal
abbrev pub IsTold : {A : Type 0} → List (List ℕ) → Result (Unit {0}) Fault → Result A Refusal → List Entry → List ℕ → List ℕ → Type 0
IsTold names told answer entries text_old text_new =
    OnOk told (OnOk answer (text_new ≡ text_old ++ entries_text names entries))
    × OnOk told (IfErr answer (λ refusal. (refusal ≢ NoMemory) × (text_new ≡ text_old ++ refusal_text refusal)))

-- what is written at the end answers a step
abbrev pub IsAnswered : List (List ℕ) → History → History → Step → List ℕ → List ℕ → Type 0
IsAnswered names old new step text_old text_new = (front : List ℕ) × StepAnswers names old new step front × (text_new ≡ text_old ++ front)

-- an event is answered by the lines of the entries that are new in the log, or of its refusal
told_answers : {A : Type 0} (names : List (List ℕ)) (old new : History) (step : Step) (told : Result (Unit {0}) Fault) (answer : Result A Refusal)
    (before : ℕ) (text_old text_new : List ℕ) → step ≢ Roll → before ≡ length old.log
    → IsTold names told answer (drop before new.log) text_old text_new
    → IfOk answer (λ it. (event : Entry) × IsEventOf names old step event × AddsEvent old new event)
    → IfErr answer (RefusedOrNoMemory (refuses names old step)) → OnErr answer (new ≡ old)
    → OnOk told (IsAnswered names old new step text_old text_new)
told_answers names old new step (Err fault) answer before text_old text_new is_event long is added refused unchanged = tt
told_answers names old new step (Ok done) (Ok it) before text_old text_new is_event long is (event, asked, adds) refused unchanged = (
  entries_text names (event ∷ adds.brought),
  event_answered names old new step (entries_text names (event ∷ adds.brought)) is_event
      (inr record { event = event; asked = asked; adds = adds; written = refl }),
  is.0 ∙ ap (λ (entries : List Entry). text_old ++ entries_text names entries) (new_part old.log new.log (event ∷ adds.brought) before adds.log long),
)
told_answers names old new step (Ok done) (Err refusal) before text_old text_new is_event long is added (inl applies) unchanged = (
  refusal_text refusal,
  event_answered names old new step (refusal_text refusal) is_event
      (inl record { refusal = refusal; applies = applies; unchanged = unchanged; written = refl }),
  is.1.1,
)
told_answers names old new step (Ok done) (Err refusal) before text_old text_new is_event long is added (inr none) unchanged = absurd (is.1.0 none.1)

-- ---- what a step asks, by the numbers of its servers

-- an event of a dispatcher: of the step's kind, refused by the same
record AsksEvent (names : List (List ℕ)) (h : History) (step : Step) (event : Event) : Type 0 where
  is_event : step ≢ Roll
  refusal : refuses names h step ≡ occurrences.refuses h event
  entry : IsEventOf names h step (entry_of h event)

not_roll : (names : List (List ℕ)) (step : Step) (event : Event) → by_numbers names step ≡ asks.Event event → step ≢ Roll
not_roll names step event is roll =
    let same : asks.Roll ≡ asks.Event event = subst (λ (s : Step). by_numbers names s ≡ asks.Event event) roll is in cc

asks_event : (names : List (List ℕ)) (h : History) (step : Step) (event : Event) → by_numbers names step ≡ asks.Event event
    → AsksEvent names h step event
asks_event names h (Arrive moment class offset pin) event is = cc
asks_event names h (Done moment ticket) event is =
    let same : events.Done moment ticket ≡ event = cc in
    subst (AsksEvent names h (Done moment ticket)) same
    (record { is_event = not_roll names (Done moment ticket) (events.Done moment ticket) refl; refusal = refl; entry = (refl, refl) })
asks_event names h (Fail moment ticket) event is =
    let same : events.Fail moment ticket ≡ event = cc in
    subst (AsksEvent names h (Fail moment ticket)) same
    (record { is_event = not_roll names (Fail moment ticket) (events.Fail moment ticket) refl; refusal = refl; entry = (refl, refl) })
asks_event names h (Abort moment ticket) event is =
    let same : events.Abort moment ticket ≡ event = cc in
    subst (AsksEvent names h (Abort moment ticket)) same
    (record { is_event = not_roll names (Abort moment ticket) (events.Abort moment ticket) refl; refusal = refl; entry = (refl, refl) })
asks_event names h (Tick moment) event is =
    let same : events.Tick moment ≡ event = cc in
    subst (AsksEvent names h (Tick moment)) same
    (record { is_event = not_roll names (Tick moment) (events.Tick moment) refl; refusal = refl; entry = refl })
asks_event names h (Check moment server answered) event is =
    let by = events.Check moment (server_number names server) answered in
    let same : by ≡ event = cc in
    subst (AsksEvent names h (Check moment server answered)) same
    (record { is_event = not_roll names (Check moment server answered) by refl; refusal = refl; entry = (refl, refl, refl) })
asks_event names h (Limit moment server limit) event is =
    let by = events.Limit moment (server_number names server) limit in
    let same : by ≡ event = cc in
    subst (AsksEvent names h (Limit moment server limit)) same
    (record { is_event = not_roll names (Limit moment server limit) by refl; refusal = refl; entry = (refl, refl, refl) })
asks_event names h Roll event is = cc

-- the event is answered
pub event_told : (names : List (List ℕ)) (old new : History) (step : Step) (event : Event) (told : Result (Unit {0}) Fault)
    (answer : Result (Unit {0}) Refusal) (before : ℕ) (text_old text_new : List ℕ) → by_numbers names step ≡ asks.Event event → before ≡ length old.log
    → IsTold names told answer (drop before new.log) text_old text_new
    → OnOk answer (AddsEvent old new (entry_of old event)) → IfErr answer (λ refusal. occurrences.refuses old event ≡ Some refusal)
    → OnErr answer (new ≡ old) → OnOk told (IsAnswered names old new step text_old text_new)
event_told names old new step event told answer before text_old text_new is long written added refused unchanged =
    told_answers names old new step told answer before text_old text_new it.is_event long written (by_ok answer added) (by_err answer refused) unchanged
  where
    it : AsksEvent names old step event
    it = asks_event names old step event is

    by_ok : (a : Result (Unit {0}) Refusal) → OnOk a (AddsEvent old new (entry_of old event))
        → IfOk a (λ it. (e : Entry) × IsEventOf names old step e × AddsEvent old new e)
    by_ok (Ok x) adds = (entry_of old event, it.entry, adds)
    by_ok (Err refusal) adds = tt

    by_err : (a : Result (Unit {0}) Refusal) → IfErr a (λ refusal. occurrences.refuses old event ≡ Some refusal)
        → IfErr a (RefusedOrNoMemory (refuses names old step))
    by_err (Ok x) applies = tt
    by_err (Err refusal) applies = inl (it.refusal ∙ applies)

-- an arrival's entry
abbrev pub arrived : History → ℕ → ℤ → ℤ → Option ℕ → ℕ → ℕ → Entry
arrived h moment class offset pin ticket place = entries.Arrive (effective h moment)
    (record { ticket = ticket; class = class; due = pos (effective h moment) +ℤ offset; pin = pin; place = place })

-- an arrival: of an arrival's step, refused by the same
record AsksArrival (names : List (List ℕ)) (h : History) (step : Step) (moment : ℕ) (class offset : ℤ) (pin : Option ℕ) : Type 0 where
  is_event : step ≢ Roll
  refusal : refuses names h step ≡ refuses_arrival h pin
  entry : (ticket place : ℕ) → IsEventOf names h step (arrived h moment class offset pin ticket place)

asks_arrival : (names : List (List ℕ)) (h : History) (step : Step) (moment : ℕ) (class offset : ℤ) (pin : Option ℕ)
    → by_numbers names step ≡ asks.Arrive moment class offset pin → AsksArrival names h step moment class offset pin
asks_arrival names h (Arrive m c o p) moment class offset pin is =
    let at : m ≡ moment = cc in
    let rank : c ≡ class = cc in
    let shift : o ≡ offset = cc in
    let bound : named_pin names p ≡ pin = cc in
    record {
      is_event = λ (roll : Arrive m c o p ≡ Roll). cc;
      refusal = ap (refuses_arrival h) bound;
      entry = λ ticket place. (ap (effective h) (sym at), sym rank, ap (λ (n : ℤ). pos (effective h moment) +ℤ n) (sym shift), sym bound);
    }
asks_arrival names h (Done m t) moment class offset pin is = cc
asks_arrival names h (Fail m t) moment class offset pin is = cc
asks_arrival names h (Abort m t) moment class offset pin is = cc
asks_arrival names h (Tick m) moment class offset pin is = cc
asks_arrival names h (Check m s a) moment class offset pin is = cc
asks_arrival names h (Limit m s l) moment class offset pin is = cc
asks_arrival names h Roll moment class offset pin is = cc

-- the arrival is answered
pub arrival_told : (names : List (List ℕ)) (old new : History) (step : Step) (moment : ℕ) (class offset : ℤ) (pin : Option ℕ)
    (told : Result (Unit {0}) Fault) (answer : Result Ticketed Refusal) (before : ℕ) (text_old text_new : List ℕ)
    → by_numbers names step ≡ asks.Arrive moment class offset pin → before ≡ length old.log
    → IsTold names told answer (drop before new.log) text_old text_new
    → IfOk answer (λ it. AddsEvent old new (arrived old moment class offset pin it.ticket it.place))
    → IfErr answer (RefusedOrNoMemory (refuses_arrival old pin)) → OnErr answer (new ≡ old)
    → OnOk told (IsAnswered names old new step text_old text_new)
arrival_told names old new step moment class offset pin told answer before text_old text_new is long written added refused unchanged =
    told_answers names old new step told answer before text_old text_new it.is_event long written (by_ok answer added)
    (subst (λ o. IfErr answer (RefusedOrNoMemory o)) (sym it.refusal) refused) unchanged
  where
    it : AsksArrival names old step moment class offset pin
    it = asks_arrival names old step moment class offset pin is

    by_ok : (a : Result Ticketed Refusal) → IfOk a (λ it. AddsEvent old new (arrived old moment class offset pin it.ticket it.place))
        → IfOk a (λ it. (e : Entry) × IsEventOf names old step e × AddsEvent old new e)
    by_ok (Ok x) adds = (arrived old moment class offset pin x.ticket x.place, it.entry x.ticket x.place, adds)
    by_ok (Err refusal) adds = tt
