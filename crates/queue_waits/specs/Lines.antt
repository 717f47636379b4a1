-- The keys of the waiting requests with their places, queue by queue.
use Rattle.std.specs.Prelude.{◌≡◌, ℕ, List, [], Option, Some, option_map, drop, take, slice_get, slice_index_or, slice_set}
use Rattle.due_key.specs.declared.key.Key.{Key}
use Rattle.due_key.specs.Order.{key_cmp}
use Rattle.log_entries.specs.declared.queue.Queue.{Queue}
use Rattle.log_entries.specs.declared.queue.Queue.TheVariants.{Backend, Server}
use Rattle.pend_queue.specs.Pairs.{merged}

-- the content of a queue: keys with places
abbrev pub Line : Type 0
Line = List (Key × ℕ)

-- the first key of a queue, if there is one
abbrev pub first_key : Line → Option Key
first_key line = option_map (λ pair. pair.0) (slice_get line 0)

-- the servers' queues, the backend's, the requests that were moved into it and aren't merged yet,
-- and the room of each
pub record Lined : Type 0 where
  pub own : List Line
  pub backend : Line
  pub moved : Line
  pub room : ℕ

-- the queues, the number of links that the backend's queue has made, and that of all queues
pub record Queued : Type 0 where
  pub own : List Line
  pub backend : Line
  pub moved : Line
  pub room : ℕ
  pub links : ℕ
  pub all_links : ℕ

-- the queues alone
abbrev pub lines_of : Queued → Lined
lines_of queued = record { own = queued.own; backend = queued.backend; moved = queued.moved; room = queued.room }

-- the content of one of the queues
abbrev pub line_at : Lined → Queue → Line
line_at lined Backend = lined.backend
line_at lined (Server server) = slice_index_or lined.own server []

-- the queues with another content in one of them
abbrev pub with_line : Lined → Queue → Line → Lined
with_line lined Backend line = record { own = lined.own; backend = line; moved = lined.moved; room = lined.room }
with_line lined (Server server) line = record { own = slice_set lined.own server line; backend = lined.backend; moved = lined.moved; room = lined.room }

abbrev pub with_moved : Lined → Line → Lined
with_moved lined line = record { own = lined.own; backend = lined.backend; moved = line; room = lined.room }

-- the queues after the moved requests are merged
abbrev pub gathered : Lined → Lined
gathered lined = record { own = lined.own; backend = merged key_cmp lined.backend lined.moved; moved = []; room = lined.room }

-- the queues after a server's queue is merged as a whole into the moved requests
abbrev pub taken_over : Lined → ℕ → Lined
taken_over lined server = with_moved (with_line lined (Server server) []) (merged key_cmp lined.moved (line_at lined (Server server)))

-- the queues where the first requests of a server's queue, this many, count as moved
abbrev pub fallen : Lined → ℕ → ℕ → Lined
fallen lined server count =
    let line = line_at lined (Server server) in
    with_moved (with_line lined (Server server) (drop count line)) (merged key_cmp lined.moved (take count line))

-- each queue has this room
pub record HaveRoom (room : ℕ) (own : List ℕ) (backend moved : ℕ) : Type 0 where
  pub servers : (server its : ℕ) → slice_get own server ≡ Some its → its ≡ room
  pub backends : backend ≡ room
  pub moveds : moved ≡ room
