-- What the parts of an event add to a history.
use Rattle.std.specs.Prelude.{◌≡◌, ℕ, ◌+◌, ◌*◌, ◌≤◌, List, ◌++◌, Option, None, Some, length, All, false}
use Rattle.log_entries.specs.declared.entry.Entry.{Entry}
use Rattle.log_entries.specs.declared.setup.Setup.{Setup}
use Rattle.log_entries.specs.Grants.{IsSettled}
use Rattle.log_entries.specs.Histories.{History, state_of, begins_event}
use Rattle.log_entries.specs.Judgement.{HasSlot, IsTold, granting, freed_by_failure, emptying}
use Rattle.log_entries.specs.Rows.{Rows, pin_of}
use Rattle.dispatch_state.specs.declared.position.Ticketed.{Ticketed}
use Rattle.dispatch_state.specs.Histories.{with_entry, stage_of, scene_of, waiting_of, HasPlaces, IsTicketAt, IsEmptied, IsJudged, IsOverNext, MayGrantNext}

-- the room for all entries that may follow the first one of an event: each place's request is moved
-- or granted once and granted once more, and three entries are for the request or server of the
-- event
abbrev pub event_room : Setup → ℕ
event_room setup = 2 * setup.places + 3

pub record HasEventRoom (history : History) : Type 0 where
  pub room : length history.log + event_room history.setup ≤ history.setup.log
  pub places : HasPlaces history

-- there is room for a move and a grant of each request that waits
pub record HasMoveRoom (history : History) : Type 0 where
  pub room : length history.log + 2 * history.setup.places ≤ history.setup.log
  pub places : HasPlaces history

-- a history goes on within an event
pub record GoesOn (old new : History) : Type 0 where
  pub entries : List Entry
  pub log : new.log ≡ old.log ++ entries
  pub setup : new.setup ≡ old.setup
  pub base : new.base ≡ old.base
  pub one_event : All (λ entry. begins_event entry ≡ false) entries

-- a history goes on by grants until all is settled; beside grants its event owes the same as before
pub record Settles (old new : History) : Type 0 where
  pub goes : GoesOn old new
  pub over : IsOverNext old → IsOverNext new
  pub freed_by_failure : (ticket server : ℕ) → stage_of old ≡ freed_by_failure ticket server → stage_of new ≡ freed_by_failure ticket server
  pub may_grant : MayGrantNext new
  pub few : length goes.entries ≤ waiting_of old
  pub pins : (ticket : ℕ) → pin_of ticket (state_of new).rows ≡ pin_of ticket (state_of old).rows
  pub places : (it : Ticketed) → IsTicketAt (state_of old).rows it → IsTicketAt (state_of new).rows it
  pub judged : IsJudged new
  pub settled : IsSettled (scene_of new)

-- a history goes on by the entries with which a ticket's slot is returned
pub record Leaves (old new : History) : Type 0 where
  pub goes : GoesOn old new
  pub few : length goes.entries ≤ 2
  pub over : stage_of new ≡ granting

-- a history goes on by the entry that ends a request's placement
pub record PlacesRequest (old new : History) : Type 0 where
  pub placement : Entry
  pub placed : new ≡ with_entry old placement
  pub over : stage_of new ≡ granting
  pub one_event : begins_event placement ≡ false

-- a history goes on by what follows a failed connection, a check, or the timeouts of a tick: its
-- event owes nothing but grants then, and the log has room for them
pub record CarriesOn (old new : History) : Type 0 where
  pub goes : GoesOn old new
  pub over : IsOverNext new
  pub may_grant : MayGrantNext new
  pub room : length new.log + waiting_of new ≤ new.setup.log

-- a ticket's slot at a server is returned, or the ticket has none and was told that it isn't served
abbrev pub IsReturn : Rows → ℕ → Option ℕ → Type 0
IsReturn rows ticket (Some server) = HasSlot rows ticket server
IsReturn rows ticket None = IsTold rows ticket

-- a history goes on by moves until nobody waits in the queue of the server that went down or was closed
pub record MovesAll (server : ℕ) (old new : History) : Type 0 where
  pub goes : GoesOn old new
  pub stage : stage_of new ≡ emptying server
  pub few : length goes.entries ≤ waiting_of old
  pub none : IsEmptied server new
