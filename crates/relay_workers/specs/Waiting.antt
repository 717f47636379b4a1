-- How a request waits for its pass.
use Rattle.std.specs.Prelude.{◌≡◌, ℕ, ◌+◌, List, Option}
use Rattle.dispatch_state.specs.declared.position.Ticketed.{Ticketed}
use Rattle.grant_board.specs.RelayCalls.{Answers}
use Rattle.grant_board.specs.Views.{Grant, RelayView, Terms}
use Rattle.grant_board.specs.declared.pass.Taking.TheVariants.{Taken, NotYet}
use Rattle.log_entries.specs.declared.setup.Setup.{Setup}
use Rattle.relay_workers.specs.Gates.{Notice, noted}
use Rattle.relay_workers.specs.Gates.Notice.{IsThere, HasLeft, Released}
use Rattle.relay_workers.specs.Turning.{HasTurned, GivesUp}
use Rattle.relay_workers.specs.declared.waiting.Patience.{Patience}
use Rattle.relay_workers.specs.declared.waiting.Patience.TheVariants.{Waits, GaveUp, Spent}

-- where a thread stands: what its gate has noted, the pauses that are left, and what its seat took, posted and saw
pub record Stand (C S : Type 0) : Type 0 where
  pub notes : Option (List (Notice C S))
  pub left : ℕ
  pub view : RelayView

-- a client that still waits was asked for, and is there; one that has left isn't asked again
abbrev pub asked_for : {C S : Type 0} → Patience → Option (List (Notice C S)) → Option (List (Notice C S))
asked_for Waits before = noted IsThere before
asked_for patience before = before

-- What is done after a try that found no pass: the request of a client that has left is given up; or
-- one pause less is left, and a turn is made; or none is left, the request is given up, and a turn is made.
pub data Holds {C S : Type 0} (terms : Terms) (setup : Setup) (ticket : ℕ) (before after : Option (List (Notice C S))) (left left_then : ℕ)
    : Patience → Patience → Type 0 where
  leaves : GivesUp terms setup ticket (noted HasLeft before) after → left_then ≡ left → Holds terms setup ticket before after left left_then Waits GaveUp
  pauses : (patience : Patience) → HasTurned terms setup (asked_for patience before) after → left ≡ left_then + 1
      → Holds terms setup ticket before after left left_then patience patience
  spends : (patience : Patience) → (between : Option (List (Notice C S))) → GivesUp terms setup ticket (asked_for patience before) between
      → HasTurned terms setup between after → left ≡ 0 → left_then ≡ 0 → Holds terms setup ticket before after left left_then patience Spent

-- one after the other, each after a try that found no pass, as long as pauses are left
pub data HasWaited {C S : Type 0} (terms : Terms) (setup : Setup) (at : Ticketed) (first : Stand C S) : Stand C S → Patience → Type 0 where
  began : HasWaited terms setup at first first Waits
  held : (before after : Stand C S) (patience then_patience : Patience) → HasWaited terms setup at first before patience → (patience ≡ Spent → ⊥)
      → Answers before.view after.view at.place at.ticket NotYet
      → Holds terms setup at.ticket before.notes after.notes before.left after.left patience then_patience
      → HasWaited terms setup at first after then_patience

-- then the pass was taken
abbrev pub TakesPass : {C S : Type 0} → Terms → Setup → Ticketed → Grant → Stand C S → Stand C S → Type 0
TakesPass {C} {S} terms setup at pass first last =
    (before : Stand C S) × (patience : Patience) × HasWaited terms setup at first before patience
    × Answers before.view last.view at.place at.ticket (Taken pass) × (last.notes ≡ before.notes) × (last.left ≡ before.left)

-- or all pauses were spent, no pass was there even then, and the client was released
abbrev pub SpendsPauses : {C S : Type 0} → Terms → Setup → Ticketed → C → Stand C S → Stand C S → Type 0
SpendsPauses {C} {S} terms setup at client first last =
    (before : Stand C S) × HasWaited terms setup at first before Spent
    × Answers before.view last.view at.place at.ticket NotYet × (last.notes ≡ noted (Released client) before.notes) × (last.left ≡ before.left)
