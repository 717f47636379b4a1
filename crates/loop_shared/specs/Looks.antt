-- The result of looking at a place, and of giving a pass back there.
use Rattle.std.specs.Prelude.{⊤, ◌≡◌, ◌<◌, ◌≤◌, ℕ, true, List, Option, Some, None, is_some}
use Rattle.grant_board.specs.Views.{Terms}
use Rattle.grant_board.specs.declared.board.BoardName.{Ghosts}
use Rattle.log_entries.specs.declared.setup.Setup.{Setup}
use Rattle.base_places.specs.Sets.{Has}
use Rattle.loop_shared.specs.declared.looking.Looked.{Looked}
use Rattle.loop_shared.specs.declared.looking.Looked.TheVariants.{Granted, Waits, Unwatched, NoSeat, Nobody}
use Rattle.loop_shared.specs.declared.owed.OwedLook.{OwedLook}
use Rattle.loop_shared.specs.declared.parked.Parked.{Parked}
use Rattle.relay_workers.specs.Gates.{Notice}
use Rattle.relay_workers.specs.Turning.{AsksDesk, GivesUp}
use Rattle.shared_desk.specs.Answers.{AnswersCollect}

-- no place is among those that are owed a look
abbrev pub OwesNoLook : List ℕ → Type 0
OwesNoLook words = (place : ℕ) → Has words place → ⊥

-- the same request, which may meanwhile be watched or given up
pub record IsSameRequest (before now : Parked) : Type 0 where
  pub queued : now.queued ≡ before.queued
  pub client : now.client ≡ before.client
  pub at : now.at ≡ before.at
  pub failed : now.failed ≡ before.failed
  pub came : now.came ≡ before.came

-- a request lay at the place, still lies there, and has this property
abbrev pub WaitsOn : (Parked → Type 0) → Option Parked → Option Parked → Type 0
WaitsOn P None now = ⊥
WaitsOn P (Some before) None = ⊥
WaitsOn P (Some before) (Some now) = IsSameRequest before now × P now

-- The request still lies at the place without its pass: it is watched, or it is given up.
abbrev pub LeavesWatched : {N : Type 0} {G : Ghosts N} → Parked → Option Parked → Looked N G → Type 0
LeavesWatched before now (Granted it) = ⊥
LeavesWatched before now Waits = WaitsOn (λ it. is_some it.watched ≡ true) (Some before) now
LeavesWatched before now (Unwatched ticket) = WaitsOn (λ it. (it.late ≡ true) × (it.at.ticket ≡ ticket)) (Some before) now
LeavesWatched before now (NoSeat owed) = ⊥
LeavesWatched before now (Nobody there) = ⊥

-- The request at the place was taken out with its pass; or it still lies there and is watched or
-- given up, or no seat was left, and then the look is still owed; or no request lay there.
abbrev pub EndsLook : {N : Type 0} {G : Ghosts N} → OwedLook → Option Parked → Option Parked → Looked N G → Type 0
EndsLook owed before now (Granted it) = (before ≡ Some it.parked) × (now ≡ None)
EndsLook owed before now Waits = WaitsOn (λ it. is_some it.watched ≡ true) before now
EndsLook owed before now (Unwatched ticket) = WaitsOn (λ it. (it.late ≡ true) × (it.at.ticket ≡ ticket)) before now
EndsLook owed before now (NoSeat left) = WaitsOn (λ it. before ≡ Some it) before now × (left ≡ owed)
EndsLook owed before now (Nobody there) = (before ≡ None) × (now ≡ None) × (there.place ≡ owed.place)

-- a look that is still owed is the same, and where nobody lies is the place of the look
abbrev pub IsLookAt : {N : Type 0} {G : Ghosts N} → OwedLook → Looked N G → Type 0
IsLookAt owed (Granted it) = ⊤
IsLookAt owed Waits = ⊤
IsLookAt owed (Unwatched ticket) = ⊤
IsLookAt owed (NoSeat left) = left ≡ owed
IsLookAt owed (Nobody there) = there.place ≡ owed.place

module _ {C S : Type 0} where
  -- a request whose client can't be watched was given up at the dispatcher; else a gate was told of nothing
  abbrev pub GivesUpUnwatched : {N : Type 0} {G : Ghosts N} → Terms → Setup → Looked N G → Option (List (Notice C S)) → Option (List (Notice C S)) → Type 0
  GivesUpUnwatched terms setup (Granted it) before after = after ≡ before
  GivesUpUnwatched terms setup Waits before after = after ≡ before
  GivesUpUnwatched terms setup (Unwatched ticket) before after = GivesUp terms setup ticket before after
  GivesUpUnwatched terms setup (NoSeat left) before after = after ≡ before
  GivesUpUnwatched terms setup (Nobody there) before after = after ≡ before

  -- what was posted at a place of the board was collected there
  pub record Collects (terms : Terms) (setup : Setup) (place : ℕ) (before after : Option (List (Notice C S))) : Type 0 where
    pub within : place < terms.places → AsksDesk terms setup (AnswersCollect terms setup place) before after
    pub beyond : terms.places ≤ place → after ≡ before
