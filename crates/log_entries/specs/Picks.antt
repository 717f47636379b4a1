-- Balancing: which of several servers is next.
use Rattle.std.specs.Prelude.{ℕ, ◌+◌, ◌-◌, ◌*◌, ◌≤◌, nat_lt, length, slice_get, if◌then◌else◌}
use Rattle.std.specs.Option.{option_map_or}
use Rattle.log_entries.specs.declared.queue.Queue.TheVariants.{Server}
use Rattle.log_entries.specs.Rows.{served, queued}
use Rattle.log_entries.specs.Scenes.{Scene}

-- a server's weight; 0 where no server has the number
abbrev pub weight_of : Scene → ℕ → ℕ
weight_of scene server = option_map_or (λ it. it.weight) (slice_get scene.servers server) 0

-- load: the number of requests that a server serves and that wait in its own queue
abbrev pub load : Scene → ℕ → ℕ
load scene server = served server scene.rows + queued (Server server) scene.rows

-- a server is no more loaded than another: the ratio of its load to its weight is no greater
abbrev pub IsNoMoreLoaded : Scene → ℕ → ℕ → Type 0
IsNoMoreLoaded scene server other = load scene server * weight_of scene other ≤ load scene other * weight_of scene server

-- the number of steps from the cursor to a server in file order, where the first server follows the
-- last; the cursor's own server is the farthest
abbrev pub steps_after : Scene → ℕ → ℕ → ℕ
steps_after scene cursor server = if nat_lt cursor server then server - cursor else (server + length scene.servers) - cursor

-- least loaded: a server of a set that is no more loaded than any of them
abbrev pub IsLeastLoaded : Scene → (ℕ → Type 0) → ℕ → Type 0
IsLeastLoaded scene among server = (other : ℕ) → among other → IsNoMoreLoaded scene server other

-- pick: of the least loaded servers of a set the nearest one after the cursor
pub record IsPick (scene : Scene) (cursor : ℕ) (among : ℕ → Type 0) (server : ℕ) : Type 0 where
  pub member : among server
  pub least : IsLeastLoaded scene among server
  pub nearest : (other : ℕ) → among other → IsLeastLoaded scene among other → steps_after scene cursor server ≤ steps_after scene cursor other
