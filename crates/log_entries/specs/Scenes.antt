-- What a server can take.
use Rattle.std.specs.Prelude.{ℕ, ◌+◌, ◌==◌, nat_lt, ◌&&◌, ◌||◌, Bool, true, false, List, Option, None, Some, slice_get, slice_index_or, if◌then◌else◌}
use Rattle.std.specs.Option.{option_map_or}
use Rattle.log_entries.specs.declared.allowance.Allowance.{Allowance}
use Rattle.log_entries.specs.declared.allowance.Intake.{Intake}
use Rattle.log_entries.specs.declared.allowance.Intake.TheVariants.{Open, Closed}
use Rattle.log_entries.specs.declared.queue.Queue.{Queue}
use Rattle.log_entries.specs.declared.queue.Queue.TheVariants.{Backend, Server}
use Rattle.log_entries.specs.declared.row.Phase.{Phase}
use Rattle.log_entries.specs.declared.row.Phase.TheVariants.{Loose, Waiting, Serving, Told}
use Rattle.log_entries.specs.declared.setup.ServerSet.{ServerSet}
use Rattle.log_entries.specs.Rows.{Rows, served, queued}

-- the scene of a decision: the servers, the present limit of each, which of them are up, and the live requests
pub record Scene : Type 0 where
  pub servers : List ServerSet
  pub limits : List Allowance
  pub ups : List Bool
  pub rows : Rows

-- a test of the server with a number; false for a number that no server has
abbrev pub of_server : Scene → ℕ → (ServerSet → Bool) → Bool
of_server scene server test = option_map_or test (slice_get scene.servers server) false

-- a server's present limit; closed where no server has the number
abbrev pub limit_of : Scene → ℕ → Intake
limit_of scene server = option_map_or (λ it. it.limit) (slice_get scene.limits server) Closed

-- open: not closed
abbrev pub is_open : Intake → Bool
is_open (Open limit) = true
is_open Closed = false

-- a server with this limit serves one more request beside this many; a closed one none
abbrev pub serves_beside : Intake → ℕ → Bool
serves_beside (Open limit) count = (limit == 0) || nat_lt count limit
serves_beside Closed count = false

-- balancing gives a server with this limit and maxqueue one more request beside this many that it
-- serves and queues; a closed one none
abbrev pub holds_beside : Intake → ℕ → ℕ → Bool
holds_beside (Open limit) maxqueue count = (limit == 0) || nat_lt count (limit + maxqueue)
holds_beside Closed maxqueue count = false

-- up: the server's health lets it take requests
abbrev pub is_up : Scene → ℕ → Bool
is_up scene server = slice_index_or scene.ups server false

-- usable: the server is up and takes part in balancing
abbrev pub is_usable : Scene → ℕ → Bool
is_usable scene server = is_up scene server && of_server scene server (λ it. nat_lt 0 it.weight)

-- free: the server isn't closed, and serves fewer than its present limit, or has none
abbrev pub is_free : Scene → ℕ → Bool
is_free scene server = of_server scene server (λ it. serves_beside (limit_of scene server) (served server scene.rows))

-- room: the server is usable and not closed, and it has no limit or serves and queues fewer than
-- its limit plus maxqueue
abbrev pub has_room : Scene → ℕ → Bool
has_room scene server =
    is_usable scene server
    && of_server scene server (λ it. holds_beside (limit_of scene server) it.maxqueue (served server scene.rows + queued (Server server) scene.rows))

-- a server takes a request that is pinned to it: it is up and open, and it is free or its queue is
-- shorter than maxqueue, where 0 is without limit
abbrev pub takes_pinned : Scene → ℕ → Bool
takes_pinned scene server =
    is_up scene server
    && is_open (limit_of scene server)
    && (is_free scene server || of_server scene server (λ it. (it.maxqueue == 0) || nat_lt (queued (Server server) scene.rows) it.maxqueue))

-- a pin whose server takes the request
abbrev pub working_pin : Scene → Option ℕ → Option ℕ
working_pin scene None = None
working_pin scene (Some server) = if takes_pinned scene server then Some server else None

-- a slot of a server may go to a queue: to its own where the server is up, and to the backend's where it is usable
abbrev pub may_take : Scene → ℕ → Queue → Bool
may_take scene server Backend = is_usable scene server
may_take scene server (Server own) = is_up scene server && (own == server)

-- a slot of a server may go to a row in this phase
abbrev pub may_go_to : Scene → ℕ → Phase → Bool
may_go_to scene server (Waiting queue since) = may_take scene server queue
may_go_to scene server Loose = false
may_go_to scene server (Serving other) = false
may_go_to scene server (Told cause) = false
