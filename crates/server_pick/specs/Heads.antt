-- The least keys of the queues that a server's slot may go to.
use Rattle.std.specs.Prelude.{◌≡◌, ℕ, nat_lt, Option, None, Some, IsTrue, MatchOption, Bool, true, false, ◌||◌, ◌&&◌, if◌then◌else◌}
use Rattle.std.specs.Ordering.{is_lt}
use Rattle.due_key.specs.declared.key.Key.{Key}
use Rattle.due_key.specs.Order.{key_cmp}
use Rattle.log_entries.specs.declared.queue.Queue.{Queue}
use Rattle.log_entries.specs.declared.queue.Queue.TheVariants.{Backend, Server}
use Rattle.log_entries.specs.declared.row.Row.{Row}
use Rattle.log_entries.specs.Grants.{IsLeastOf, IsLawfulGrant}
use Rattle.log_entries.specs.Rows.{Rows, IsRow, IsEmptyQueue, phase_waits_in, queued}
use Rattle.log_entries.specs.Scenes.{Scene, is_up, is_usable}
use Rattle.server_pick.specs.declared.heads.Heads.{Heads}

-- the head of a server's own queue, or of the backend's
abbrev pub head_at : Heads → Queue → Option Key
head_at heads Backend = heads.backend
head_at heads (Server server) = heads.own

-- a key is the least one in a queue
pub record IsLeastIn (queue : Queue) (rows : Rows) (key : Key) : Type 0 where
  pub row : Row
  pub live : IsRow rows row
  pub waits : IsTrue (phase_waits_in queue row.phase)
  pub own : row.key ≡ key
  pub least : IsLeastOf (phase_waits_in queue) rows key

-- a queue's head: its least key, or none where the queue is empty
abbrev pub IsHead : Option Key → Queue → Rows → Type 0
IsHead head queue rows = MatchOption head (IsEmptyQueue queue rows) (IsLeastIn queue rows)

-- the heads of a server's own queue and of the backend's
pub record AreHeads (heads : Heads) (server : ℕ) (rows : Rows) : Type 0 where
  pub own : IsHead heads.own (Server server) rows
  pub backend : IsHead heads.backend Backend rows

-- granting the request at a queue's head to a server is lawful
abbrev pub IsLawfulTake : Scene → ℕ → Heads → ℕ → Queue → Type 0
IsLawfulTake scene cursor heads server queue = (key : Key) × (head_at heads queue ≡ Some key) × IsLawfulGrant scene cursor key.ticket queue server

-- a request waits in a queue that a slot of a server may go to
abbrev pub has_stay : Scene → ℕ → Bool
has_stay scene server = (is_up scene server && nat_lt 0 (queued (Server server) scene.rows)) || (is_usable scene server && nat_lt 0 (queued Backend scene.rows))

-- a head of the backend's queue goes before a head of a server's
abbrev pub goes_first : Option Key → Option Key → Bool
goes_first None own = false
goes_first (Some other) None = true
goes_first (Some other) (Some own) = is_lt (key_cmp other own)

-- the queue whose head a server takes: its own, or the backend's where the server is usable and the
-- backend's head goes first
abbrev pub queue_of : Scene → Heads → ℕ → Queue
queue_of scene heads server = if is_usable scene server && goes_first heads.backend heads.own then Backend else Server server
