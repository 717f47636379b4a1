-- A history that goes on by one entry.
use Rattle.std.specs.Prelude.{◌≡◌, ℕ, ◌+◌, ◌-◌, ◌≤◌, [], ◌∷◌, ◌++◌, Option, None, Some, Bool, length, count_by}
use Rattle.std.specs.Prelude.{false}
use Rattle.log_entries.specs.declared.entry.Entry.{Entry}
use Rattle.log_entries.specs.declared.entry.Entry.TheVariants.{Granted, Moved}
use Rattle.log_entries.specs.declared.queue.Queue.{Queue}
use Rattle.log_entries.specs.declared.queue.Queue.TheVariants.{Server}
use Rattle.log_entries.specs.declared.refusal.Refusal.{Refusal}
use Rattle.log_entries.specs.Histories.{History, state_of, effective, start_of, end_of}
use Rattle.log_entries.specs.declared.row.Row.{Row}
use Rattle.log_entries.specs.Refusals.{entry_room, is_waiting}
use Rattle.log_entries.specs.Rows.{Rows, StandsAt, IsEmptyQueue, queued}
use Rattle.log_entries.specs.Judgement.{Stage, granting, next_stage, stage_after, IsPut, EventIsOver, MayGrant, MayCome, AllMayCome, MayBegin}
use Rattle.log_entries.specs.Grants.{IsSettled}
use Rattle.log_entries.specs.Legal.{IsBase}
use Rattle.log_entries.specs.States.{scene, after}
use Rattle.log_entries.specs.Scenes.{Scene}
use Rattle.dispatch_state.specs.declared.position.Ticketed.{Ticketed}

-- a history with one more entry
abbrev pub with_entry : History → Entry → History
with_entry history entry = record history { log = history.log ++ entry ∷ [] }

-- the stage at a history's end
abbrev pub stage_of : History → Stage
stage_of history = stage_after granting history.log

-- an entry may come at a history's end
abbrev pub MayComeNext : History → Entry → Type 0
MayComeNext history entry = MayCome (end_of history) (stage_of history) entry

-- a request without a phase may be put wherever its pin and the server to avoid allow, and its
-- event owes nothing afterwards
abbrev pub MayPut : History → Option ℕ → Option ℕ → ℕ → Type 0
MayPut history pin avoid ticket =
    (entry : Entry) → IsPut (scene history.setup (state_of history)) (state_of history).cursor pin avoid ticket entry
    → MayComeNext history entry × (next_stage (stage_of history) entry ≡ granting)

-- at a history's end the last event is over, all is settled, and nothing refuses the next one
pub record MayAccept (history : History) (refused : Option Refusal) : Type 0 where
  pub over : EventIsOver history.setup (state_of history) (stage_of history)
  pub settled : IsSettled (scene history.setup (state_of history))
  pub accepted : refused ≡ None

-- an event may begin at a history's end, no earlier than at this moment
abbrev pub MayBeginNext : History → ℕ → Option Refusal → Type 0
MayBeginNext history moment refused = MayBegin (end_of history) (stage_of history) (effective history moment) refused

-- at a history's end the last event owes nothing but grants, and grants may come
abbrev pub IsOverNext : History → Type 0
IsOverNext history = EventIsOver history.setup (state_of history) (stage_of history)

abbrev pub MayGrantNext : History → Type 0
MayGrantNext history = MayGrant history.setup (state_of history) (stage_of history)

-- the log has room for the longest event
abbrev pub HasEntryRoom : History → Type 0
HasEntryRoom history = entry_room history.setup ≤ history.setup.log - length history.log

-- a place's row waits; the number of rows that wait
abbrev pub row_waits : Option Row → Bool
row_waits None = false
row_waits (Some row) = is_waiting row.phase

abbrev pub waiting_of : History → ℕ
waiting_of history = count_by row_waits (state_of history).rows

-- a history has as many places as its setup says
abbrev pub HasPlaces : History → Type 0
HasPlaces history = length (state_of history).rows ≡ history.setup.places

-- the part of a history's last state that a decision depends on
abbrev pub scene_of : History → Scene
scene_of history = scene history.setup (state_of history)

-- the cursor after an entry at a history's end
abbrev pub cursor_after : History → Entry → ℕ
cursor_after history entry = (after history.setup (state_of history) entry).cursor

-- a history goes on by one lawful grant, and one request fewer waits
pub record IsGrant (old new : History) : Type 0 where
  pub ticket : ℕ
  pub queue : Queue
  pub server : ℕ
  pub grants : new ≡ with_entry old (Granted ticket queue server)
  pub lawful : MayComeNext old (Granted ticket queue server)
  pub fewer : waiting_of new + 1 ≡ waiting_of old

-- a history's window begins at a proper base, and each of its entries may come where it stands
pub record IsJudged (history : History) : Type 0 where
  pub begins : IsBase history.setup history.base
  pub judged : AllMayCome (start_of history) granting history.log

-- a live request is at its place
abbrev pub IsTicketAt : Rows → Ticketed → Type 0
IsTicketAt rows it = (row : Row) × StandsAt rows it.place row × (row.key.ticket ≡ it.ticket)

-- the live request with a ticket was found
pub record IsFound (rows : Rows) (ticket : ℕ) (it : Ticketed) : Type 0 where
  pub named : it.ticket ≡ ticket
  pub at : IsTicketAt rows it

-- a history goes on by the move of one request from a server's queue into the backend's
pub record IsMove (server : ℕ) (old new : History) : Type 0 where
  pub ticket : ℕ
  pub moves : new ≡ with_entry old (Moved ticket server)
  pub lawful : MayComeNext old (Moved ticket server)
  pub fewer : queued (Server server) (state_of new).rows + 1 ≡ queued (Server server) (state_of old).rows

-- nobody waits in a server's queue
abbrev pub IsEmptied : ℕ → History → Type 0
IsEmptied server history = IsEmptyQueue (Server server) (state_of history).rows
