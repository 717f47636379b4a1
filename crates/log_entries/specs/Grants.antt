-- The request that a free slot is granted to.
use Rattle.std.specs.Prelude.{◌≡◌, ◌≢◌, Bool, ℕ, ◌<◌, ◌≤◌, IsTrue}
use Rattle.std.specs.declared.cmp.Ordering.TheVariants.{Greater}
use Rattle.due_key.specs.declared.key.Key.{Key}
use Rattle.due_key.specs.Order.{key_cmp}
use Rattle.log_entries.specs.declared.queue.Queue.{Queue}
use Rattle.log_entries.specs.declared.row.Phase.{Phase}
use Rattle.log_entries.specs.declared.row.Row.{Row}
use Rattle.log_entries.specs.Picks.{weight_of, IsPick}
use Rattle.log_entries.specs.Rows.{Rows, IsRow, phase_waits_in}
use Rattle.log_entries.specs.Scenes.{Scene, is_free, may_take, may_go_to}

-- a key is the least of the rows whose phase passes a test: none of them has a smaller key
abbrev pub IsLeastOf : (Phase → Bool) → Rows → Key → Type 0
IsLeastOf test rows key = (other : Row) → IsRow rows other → IsTrue (test other.phase) → key_cmp key other.key ≢ Greater

-- a server can take: it is free, and a request waits that may take its slot
abbrev pub CanTake : Scene → ℕ → Type 0
CanTake scene server = IsTrue (is_free scene server) × ((row : Row) × IsRow scene.rows row × IsTrue (may_go_to scene server row.phase))

-- settled: no server is free while a request waits that may take its slot
abbrev pub IsSettled : Scene → Type 0
IsSettled scene = (server : ℕ) → CanTake scene server → ⊥

-- the server that takes next: among those that can take the first one of weight 0 in file order,
-- and where there is none the pick
pub record IsNextTaker (scene : Scene) (cursor server : ℕ) : Type 0 where
  pub takes : CanTake scene server
  pub weightless_first : (other : ℕ) → weight_of scene other ≡ 0 → CanTake scene other → (weight_of scene server ≡ 0) × (server ≤ other)
  pub picked : 0 < weight_of scene server → IsPick scene cursor (CanTake scene) server

-- lawful grant: the ticket waits in a queue that the next server may take from, and its key is the
-- least of all requests that this server may take
pub record IsLawfulGrant (scene : Scene) (cursor ticket : ℕ) (queue : Queue) (server : ℕ) : Type 0 where
  pub row : Row
  pub live : IsRow scene.rows row
  pub named : row.key.ticket ≡ ticket
  pub waits : IsTrue (phase_waits_in queue row.phase)
  pub taken : IsTrue (may_take scene server queue)
  pub next : IsNextTaker scene cursor server
  pub least : IsLeastOf (may_go_to scene server) scene.rows row.key
