-- What a gate notes.
use Rattle.std.specs.Prelude.{ℕ, Bool, List, [], ◌∷◌, ◌++◌, Option, None, Some}
use Rattle.dispatch_reports.specs.declared.reporting.EndedWindow.{EndedWindow}
use Rattle.grant_board.specs.Views.{Grant, RelayView}
use Rattle.shared_desk.specs.Changes.{Change}

-- What passes between a gate and the thread that asks it, whose clients and connections are of the
-- types C and S: a client that came, that no more come, whether one that waits is there or has left,
-- and a client that the gate took back; a connection for a pass, that there is none, and a
-- connection that it took back; the view of a seat that it was shown; the result of a server's
-- check, or that it isn't over; a moment; what a call of the desk changed; and a window that a call
-- ended, with what it changed.
pub data Notice (C S : Type 0) : Type 0 where
  Came : C → Notice C S
  NoMore : Notice C S
  IsThere : Notice C S
  HasLeft : Notice C S
  Released : C → Notice C S
  Connected : Grant → S → Notice C S
  Missing : Grant → Notice C S
  Disconnected : S → Notice C S
  Posted : RelayView → Notice C S
  Found : ℕ → Bool → Notice C S
  NotYet : ℕ → Notice C S
  Now : ℕ → Notice C S
  Told : Change → Notice C S
  Ended : EndedWindow → Change → Notice C S

-- one notice more; a gate that notes none says nothing
abbrev pub noted : {C S : Type 0} → Notice C S → Option (List (Notice C S)) → Option (List (Notice C S))
noted notice None = None
noted notice (Some before) = Some (before ++ notice ∷ [])
