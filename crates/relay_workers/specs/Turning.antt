-- Calls of the desk that are made for a gate, and what the gate notes of them.
use Rattle.std.specs.Prelude.{◌≡◌, ◌⊎◌, ℕ, Bool, List, Option, None, Some, Result, Ok, Err}
use Rattle.std.specs.declared.alloc.AllocError.{AllocError}
use Rattle.dispatch_reports.specs.declared.reporting.EndedWindow.{EndedWindow}
use Rattle.grant_board.specs.Views.{Terms}
use Rattle.log_entries.specs.declared.refusal.Refusal.{Refusal}
use Rattle.log_entries.specs.declared.refusal.Refusal.TheVariants.{LogFull}
use Rattle.log_entries.specs.declared.setup.Setup.{Setup}
use Rattle.relay_workers.specs.Gates.{Notice, noted}
use Rattle.relay_workers.specs.Gates.Notice.{Now, Told, Ended}
use Rattle.shared_desk.specs.Answers.{AnswersAbort, AnswersCheck, AnswersTurn, MakesRoom}
use Rattle.shared_desk.specs.Changes.{Change}

module _ {C S : Type 0} where
  -- a gate took the window that ended, where one did; else it was told of the call that found room
  abbrev pub with_room : Option EndedWindow → Change → Option (List (Notice C S)) → Option (List (Notice C S))
  with_room None room before = noted (Told room) before
  with_room (Some window) room before = noted (Ended window room) before

  -- A gate was told what a call changed, which wasn't refused since the log was full. Or it was told
  -- before of the same call, which was; then room was made, and it was told of the call that was made
  -- once more; or there was no memory for room, and the call stays refused. A call answers, and
  -- returns what it changed in a value of its own.
  abbrev pub WasTold : {T E : Type 0} → (E → Change) → Terms → Setup → (Result T Refusal → E → Type 0) → Result T Refusal
      → Option (List (Notice C S)) → Option (List (Notice C S)) → Type 0
  WasTold {T} {E} change_of terms setup Answers result before after =
      ((it : E) × Answers result it × (result ≡ Err LogFull → ⊥) × (after ≡ noted (Told (change_of it)) before))
      ⊎ ((earlier : E) × Answers (Err LogFull) earlier × (room : Change)
      × (((found : Option EndedWindow) × (it : E) × MakesRoom terms setup (Ok found) room × Answers result it
      × (after ≡ noted (Told (change_of it)) (with_room found room (noted (Told (change_of earlier)) before))))
      ⊎ ((fault : AllocError) × MakesRoom terms setup (Err fault) room × (result ≡ Err LogFull)
      × (after ≡ noted (Told room) (noted (Told (change_of earlier)) before)))))

  -- The desk was asked at a moment of the gate, and answered so; and the gate was told what was
  -- changed. Nothing else passed between them.
  abbrev pub IsAnswered : {T : Type 0} → Terms → Setup → (ℕ → Result T Refusal → Change → Type 0) → Result T Refusal
      → Option (List (Notice C S)) → Option (List (Notice C S)) → Type 0
  IsAnswered terms setup Answers result before after =
      (moment : ℕ) × WasTold (λ (change : Change). change) terms setup (Answers moment) result (noted (Now moment) before) after

  -- whatever it answered
  abbrev pub AsksDesk : {T : Type 0} → Terms → Setup → (ℕ → Result T Refusal → Change → Type 0)
      → Option (List (Notice C S)) → Option (List (Notice C S)) → Type 0
  AsksDesk {T} terms setup Answers before after = (result : Result T Refusal) × IsAnswered terms setup Answers result before after

  -- a turn was made
  abbrev pub HasTurned : Terms → Setup → Option (List (Notice C S)) → Option (List (Notice C S)) → Type 0
  HasTurned terms setup before after = AsksDesk terms setup (AnswersTurn terms setup) before after

  -- a request was given up
  abbrev pub GivesUp : Terms → Setup → ℕ → Option (List (Notice C S)) → Option (List (Notice C S)) → Type 0
  GivesUp terms setup ticket before after = AsksDesk terms setup (AnswersAbort terms setup ticket) before after

  -- the result of a server's check was reported
  abbrev pub Reports : Terms → Setup → ℕ → Bool → Option (List (Notice C S)) → Option (List (Notice C S)) → Type 0
  Reports terms setup server ok before after = AsksDesk terms setup (AnswersCheck terms setup server ok) before after
