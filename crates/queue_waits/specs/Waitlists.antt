-- The waiting requests, as contracts see them.
use Rattle.std.specs.Prelude.{◌≡◌, ◌≢◌, ◌⊎◌, ℕ, ◌+◌, ◌≤◌, length, ◌++◌, ◌∷◌, [], List, Option, None, Some, MatchOption, Contains, map, slice_get, slice_set}
use Rattle.std.specs.declared.cmp.Ordering.TheVariants.{Greater}
use Rattle.due_key.specs.declared.key.Key.{Key}
use Rattle.due_key.specs.Order.{key_cmp}
use Rattle.log_entries.specs.declared.queue.Queue.{Queue}
use Rattle.log_entries.specs.declared.queue.Queue.TheVariants.{Backend, Server}
use Rattle.server_pick.specs.declared.heads.Heads.{Heads}
use Rattle.queue_waits.specs.declared.waiters.Waiter.{Waiter}
use Rattle.base_lists.specs.Once.{ComeOnce}
use Rattle.queue_waits.specs.Order.{places_without}

-- the places, each empty or with a waiting request
abbrev pub Waiters : Type 0
Waiters = List (Option Waiter)

-- a request waits at a place
abbrev pub WaitsAt : Waiters → ℕ → Waiter → Type 0
WaitsAt waiters place waiter = slice_get waiters place ≡ Some (Some waiter)

-- the waiting requests, by place; their places in the order in which they joined; and the number of
-- servers with a queue
pub record Waitlist : Type 0 where
  pub waiters : Waiters
  pub order : List ℕ
  pub servers : ℕ

-- the same, the number of links that the backend's queue has made, that of all queues, and the
-- server of whose queue some requests were moved and others weren't yet
pub record WaitingQueues : Type 0 where
  pub waiters : Waiters
  pub order : List ℕ
  pub servers : ℕ
  pub links : ℕ
  pub all_links : ℕ
  pub falling : Option ℕ

-- the requests alone
abbrev pub list_of : WaitingQueues → Waitlist
list_of queues = record { waiters = queues.waiters; order = queues.order; servers = queues.servers }

-- The backend's queue made the links of one merge, of at most as many requests as can wait. The
-- number of links of a merge is the queue's own.
abbrev pub MergesOnce : (ℕ → ℕ → ℕ) → WaitingQueues → WaitingQueues → Type 0
MergesOnce links_of_merge old new =
    (held more : ℕ) × (held + more ≤ length old.waiters) × (new.links ≡ old.links + links_of_merge held more)

-- All queues together made the links of one merge, of at most as many requests as can wait. So no
-- request was taken out of its queue on its own, or inserted: the number of links of that isn't
-- specified.
abbrev pub AllMergeOnce : (ℕ → ℕ → ℕ) → WaitingQueues → WaitingQueues → Type 0
AllMergeOnce links_of_merge old new =
    (held more : ℕ) × (held + more ≤ length old.waiters) × (new.all_links ≡ old.all_links + links_of_merge held more)

-- a request was moved: the last one of its server's queue takes the queue along, by one merge, and
-- the ones before it link nothing
abbrev pub MovesWhole : (ℕ → ℕ → ℕ) → WaitingQueues → WaitingQueues → Type 0
MovesWhole links_of_merge old new = MatchOption new.falling (AllMergeOnce links_of_merge old new) (λ server. new.all_links ≡ old.all_links)

-- no queue but the backend's made a link
abbrev pub LinksBackendAlone : WaitingQueues → WaitingQueues → Type 0
LinksBackendAlone old new = new.all_links + old.links ≡ old.all_links + new.links

-- no request was moved whose queue isn't merged, except for one server's, where others still wait
abbrev pub FallsAlone : ℕ → WaitingQueues → Type 0
FallsAlone server queues =
    (queues.falling ≡ None)
    ⊎ ((queues.falling ≡ Some server) × (place : ℕ) × (waiter : Waiter) × WaitsAt queues.waiters place waiter × (waiter.queue ≡ Server server))

-- one more request waits, as the last one that joined
abbrev pub with_waiter : Waitlist → ℕ → Waiter → Waitlist
with_waiter list place waiter = record { waiters = slice_set list.waiters place (Some waiter); order = list.order ++ place ∷ []; servers = list.servers }

-- the request at a place waits no more
abbrev pub without_waiter : Waitlist → ℕ → Waitlist
without_waiter list place = record { waiters = slice_set list.waiters place None; order = places_without place list.order; servers = list.servers }

-- the request at a place waits again, as the last one that joined
abbrev pub with_waiter_anew : Waitlist → ℕ → Waiter → Waitlist
with_waiter_anew list place waiter =
    record { waiters = slice_set list.waiters place (Some waiter); order = places_without place list.order ++ place ∷ []; servers = list.servers }

-- no waiting request has the key
abbrev pub HasNoKey : Waiters → Key → Type 0
HasNoKey waiters key = (place : ℕ) (waiter : Waiter) → WaitsAt waiters place waiter → waiter.key ≢ key

-- no request waits in a queue
abbrev pub NoneWaitsIn : Queue → Waiters → Type 0
NoneWaitsIn queue waiters = (place : ℕ) (waiter : Waiter) → WaitsAt waiters place waiter → waiter.queue ≢ queue

-- the request at a place waits in a queue, and no other there has a lower key
pub record WaitsFirstIn (queue : Queue) (waiters : Waiters) (place : ℕ) (waiter : Waiter) : Type 0 where
  pub waits : WaitsAt waiters place waiter
  pub its : waiter.queue ≡ queue
  pub least : (other : ℕ) (its : Waiter) → WaitsAt waiters other its → its.queue ≡ queue → key_cmp waiter.key its.key ≢ Greater

-- a key is that of a queue's first request
abbrev pub IsFirstKey : Queue → Waiters → Key → Type 0
IsFirstKey queue waiters key = (place : ℕ) × (waiter : Waiter) × WaitsFirstIn queue waiters place waiter × (waiter.key ≡ key)

-- a queue's head is the key of its first request, or none where the queue is empty
abbrev pub IsHeadOf : Option Key → Queue → Waiters → Type 0
IsHeadOf head queue waiters = MatchOption head (NoneWaitsIn queue waiters) (IsFirstKey queue waiters)

-- heads are those of a server's queue and of the backend's
pub record AreFirst (server : ℕ) (heads : Heads) (list : Waitlist) : Type 0 where
  pub own : IsHeadOf heads.own (Server server) list.waiters
  pub backend : IsHeadOf heads.backend Backend list.waiters

-- the order has exactly the places of the waiting requests, each once
pub record IsOrderOf (waiters : Waiters) (order : List ℕ) : Type 0 where
  pub once : ComeOnce order
  pub waits : (place : ℕ) → Contains order place → (waiter : Waiter) × WaitsAt waiters place waiter
  pub all : (place : ℕ) (waiter : Waiter) → WaitsAt waiters place waiter → Contains order place

-- the waiter after it was moved into the backend's queue, by the entry at a position
abbrev pub moved_waiter : Waiter → ℕ → Waiter
moved_waiter waiter joined = record { key = waiter.key; queue = Backend; joined = joined }

-- the request at a place joined before the first entry of the log
abbrev pub since_before : Option Waiter → Option Waiter
since_before None = None
since_before (Some waiter) = Some (record waiter { joined = 0 })

-- the same for all waiting requests
abbrev pub in_next_window : Waitlist → Waitlist
in_next_window list = record list { waiters = map since_before list.waiters }
