-- What a desk answers to a call that may change what its lock holds, and what the call changed.
use Rattle.std.specs.Prelude.{◌≡◌, ◌<◌, ℕ, Bool, List, Option, None, Some, MatchOption, Result, Ok, Err}
use Rattle.std.specs.declared.alloc.AllocError.{AllocError}
use Rattle.dispatch_reports.specs.Lines.{AreLines}
use Rattle.dispatch_reports.specs.declared.reporting.EndedWindow.{EndedWindow}
use Rattle.dispatch_state.specs.Histories.{HasEntryRoom}
use Rattle.dispatch_state.specs.declared.position.Ticketed.{Ticketed}
use Rattle.grant_board.specs.KeeperCalls.{FindsUnposted}
use Rattle.grant_board.specs.Views.{Terms}
use Rattle.grant_board.specs.declared.returned.Return.{Return}
use Rattle.late_cert.specs.Certificates.{IsCertified}
use Rattle.locked_book.specs.Books.{mark_by}
use Rattle.locked_book.specs.Calls.{SetsBound, TakesBack}
use Rattle.locked_book.specs.Turns.{Turns, Halts}
use Rattle.log_entries.specs.Histories.{History, RefusedOrNoMemory, effective, next_window, state_of, refuses_abort, refuses_arrival, refuses_check, refuses_limit, refuses_tick}
use Rattle.log_entries.specs.Legal.{AddsEvent}
use Rattle.log_entries.specs.Rows.{served}
use Rattle.log_entries.specs.declared.entry.Entry.{Entry}
use Rattle.log_entries.specs.declared.entry.Entry.TheVariants.{Abort, Check, Limit, Tick}
use Rattle.log_entries.specs.declared.refusal.Refusal.{Refusal}
use Rattle.log_entries.specs.declared.refusal.Refusal.TheVariants.{LogFull}
use Rattle.log_entries.specs.declared.allowance.Intake.{Intake}
use Rattle.log_entries.specs.declared.setup.Setup.{Setup}
use Rattle.shared_desk.specs.Changes.{AreNone, Change, ChangesNothing, Offers}
use Rattle.shared_desk.specs.Replies.{IsHeld}
use Rattle.shared_desk.specs.Tails.{HasCaughtUp, HasKept, WhereFollowed}
use Rattle.log_reading.specs.Tails.{Waiting}

-- An event is asked for: it was added to the log that the lock held, and its verdicts were offered; or
-- that log refuses it, and nothing was changed.
abbrev pub AnswersEvent : Terms → Setup → (History → Entry) → (History → Option Refusal) → Result (Unit {0}) Refusal → Change → Type 0
AnswersEvent terms setup event refuses (Ok done) change =
    IsHeld terms setup change.old × AddsEvent change.old.history change.new.history (event change.old.history) × Offers change
AnswersEvent terms setup event refuses (Err refusal) change =
    IsHeld terms setup change.old × (refuses change.old.history ≡ Some refusal) × ChangesNothing change

-- the same where a request is given up, at a tick, and where a check of a server ended
abbrev pub AnswersAbort : Terms → Setup → ℕ → ℕ → Result (Unit {0}) Refusal → Change → Type 0
AnswersAbort terms setup ticket moment =
    AnswersEvent terms setup (λ history. Abort (effective history moment) ticket) (λ history. refuses_abort history ticket)

abbrev pub AnswersTick : Terms → Setup → ℕ → Result (Unit {0}) Refusal → Change → Type 0
AnswersTick terms setup moment = AnswersEvent terms setup (λ history. Tick (effective history moment)) refuses_tick

abbrev pub AnswersCheck : Terms → Setup → ℕ → Bool → ℕ → Result (Unit {0}) Refusal → Change → Type 0
AnswersCheck terms setup server ok moment =
    AnswersEvent terms setup (λ history. Check (effective history moment) server ok) (λ history. refuses_check history server)

-- the same for a server's limit, whose mark at the board changes with it
abbrev pub AnswersLimit : Terms → Setup → ℕ → Intake → ℕ → Result (Unit {0}) Refusal → Change → Type 0
AnswersLimit terms setup server intake moment (Ok done) change =
    IsHeld terms setup change.old × AddsEvent change.old.history change.new.history (Limit (effective change.old.history moment) server intake)
    × ((woken : List ℕ) × AreNone woken
    × SetsBound change.old change.new server (mark_by (record { limit = intake; served = served server (state_of change.old.history).rows })) woken change.places)
AnswersLimit terms setup server intake moment (Err refusal) change =
    IsHeld terms setup change.old × (refuses_limit change.old.history server ≡ Some refusal) × ChangesNothing change

-- A request asks for a place: it has one of the board's, and its arrival was added to the log; or
-- the arrival is refused with this pin, or there was no memory, and nothing was changed.
abbrev pub AnswersArrival : Terms → Setup → (Ticketed → ℕ → Entry) → Option ℕ → ℕ → Result Ticketed Refusal → Change → Type 0
AnswersArrival terms setup event pin moment (Ok it) change =
    IsHeld terms setup change.old × (it.place < terms.places)
    × AddsEvent change.old.history change.new.history (event it (effective change.old.history moment)) × Offers change
AnswersArrival terms setup event pin moment (Err refusal) change =
    IsHeld terms setup change.old × RefusedOrNoMemory (refuses_arrival change.old.history pin) refusal × ChangesNothing change

-- A place is looked at: what was posted there was collected; nothing is posted there; or the log is
-- full, and nothing was changed.
abbrev pub AnswersCollect : Terms → Setup → ℕ → ℕ → Result (Option Return) Refusal → Change → Type 0
AnswersCollect terms setup place moment (Ok (Some back)) change =
    IsHeld terms setup change.old
    × ((woken : List ℕ) × AreNone woken × TakesBack change.old change.new place (effective change.old.history moment) back woken change.places)
AnswersCollect terms setup place moment (Ok None) change =
    IsHeld terms setup change.old × (change.new.history ≡ change.old.history)
    × FindsUnposted change.old.view change.new.view place × AreNone change.places
AnswersCollect terms setup place moment (Err refusal) change =
    IsHeld terms setup change.old × (refusal ≡ LogFull) × (refuses_tick change.old.history ≡ Some LogFull) × ChangesNothing change

-- a turn is asked for: it was made whole; or it halted where the log was full
abbrev pub AnswersTurn : Terms → Setup → ℕ → Result (Unit {0}) Refusal → Change → Type 0
AnswersTurn terms setup moment (Ok done) change =
    IsHeld terms setup change.old × ((woken : List ℕ) × AreNone woken × Turns moment change.old woken change.new change.places)
AnswersTurn terms setup moment (Err refusal) change =
    IsHeld terms setup change.old × (refusal ≡ LogFull) × (refuses_tick change.new.history ≡ Some LogFull)
    × ((woken : List ℕ) × AreNone woken × Halts moment change.old woken change.new change.places)

-- the window ended, and the next one began
pub record EndsWindow (window : EndedWindow) (change : Change) : Type 0 where
  pub reports : IsCertified change.old.history window.reports
  pub lines : AreLines change.old.history window.servers.items
  pub next : change.new ≡ record change.old { history = next_window change.old.history }
  pub quiet : AreNone change.places

-- the end of the window is asked for: it ended; or there was no memory, and nothing was changed
abbrev pub AnswersRoll : Terms → Setup → Result EndedWindow AllocError → Change → Type 0
AnswersRoll terms setup (Ok window) change = IsHeld terms setup change.old × EndsWindow window change
AnswersRoll terms setup (Err fault) change = IsHeld terms setup change.old × ChangesNothing change

-- Room for an event is asked for: it is there; or it isn't, and the window ended; or there was no
-- memory, and nothing was changed.
abbrev pub MakesRoom : Terms → Setup → Result (Option EndedWindow) AllocError → Change → Type 0
MakesRoom terms setup (Ok None) change =
    IsHeld terms setup change.old × HasEntryRoom change.old.history × ChangesNothing change
MakesRoom terms setup (Ok (Some window)) change =
    IsHeld terms setup change.old × (HasEntryRoom change.old.history → ⊥) × EndsWindow window change
MakesRoom terms setup (Err fault) change = IsHeld terms setup change.old × ChangesNothing change

-- a call reached what waits to be read, and changed it so, where a reader follows the log
abbrev pub ReachesTail : (Waiting → Waiting → Type 0) → Change → Type 0
ReachesTail goes change = MatchOption change.tail ⊥ (λ tail. WhereFollowed goes tail.old tail.new)

-- The end of the window is asked for: all of the window's log is kept to be read, and behind it the
-- end, where the window ended.
abbrev pub KeepsWindow : Result EndedWindow AllocError → Change → Type 0
KeepsWindow (Ok window) change = ReachesTail (HasKept change.old.history.log) change
KeepsWindow (Err fault) change = ReachesTail (HasCaughtUp change.old.history.log) change

-- the same where room for an event is asked for
abbrev pub KeepsFullWindow : Result (Option EndedWindow) AllocError → Change → Type 0
KeepsFullWindow (Ok (Some window)) change = ReachesTail (HasKept change.old.history.log) change
KeepsFullWindow (Ok None) change = ReachesTail (HasCaughtUp change.old.history.log) change
KeepsFullWindow (Err fault) change = ReachesTail (HasCaughtUp change.old.history.log) change
