-- The fall of a server: its requests are moved into the backend's queue one after the other, its queue as a whole.
use Rattle.std.specs.Prelude.{◌≡◌, ◌≢◌, ℕ, zero, suc, ◌+◌, ◌<◌, ◌≤◌, length, Option, None, Some, vec_capacity}
use Rattle.due_key.specs.Order.{key_cmp}
use Rattle.log_entries.specs.declared.queue.Queue.TheVariants.{Server}
use Rattle.pend_queue.specs.Pairs.{IsAscending, HaveNoCommonKey}
use Rattle.queue_waits.specs.declared.falls.Fall.{Fall}
use Rattle.queue_waits.specs.InQueues.{AreWaiting}
use Rattle.queue_waits.specs.Lines.{Lined, line_at, fallen}
use Rattle.queue_waits.specs.Order.{Order}
use Rattle.queue_waits.specs.Waitlists.{Waiters}

-- the server of whose queue some requests, but not all, were moved, if there is one
abbrev pub falling_server : ℕ → ℕ → Option ℕ
falling_server server zero = None
falling_server server (suc told) = Some server

-- the queues in which the requests that a falling server has already lost count as moved
abbrev pub lines_in : Lined → Fall → Lined
lines_in lined fall = fallen lined fall.server fall.told

-- A server falls: the pairs of its queue are listed by rising key; the first `told` of them were
-- moved, and others weren't yet. There is room for all of them in the queue of moved requests.
pub record IsFalling (lined : Lined) (fall : Fall) : Type 0 where
  pub within : fall.server < length lined.own
  pub known : fall.sorted.items ≡ line_at lined (Server fall.server)
  pub left : fall.told < length fall.sorted.items
  pub ascending : IsAscending key_cmp fall.sorted.items
  pub moved : IsAscending key_cmp lined.moved
  pub apart : HaveNoCommonKey key_cmp lined.moved fall.sorted.items
  pub room : length lined.moved + length fall.sorted.items ≤ lined.room

-- no server falls, or one does
abbrev pub MayFall : Lined → Fall → Type 0
MayFall lined fall = fall.told ≢ 0 → IsFalling lined fall

-- the waiting requests are in the queues, with or without a fall under way, and a fall has room for
-- the pairs of all places
pub record AreKept (lined : Lined) (fall : Fall) (waiters : Waiters) (order : Order) : Type 0 where
  pub waiting : AreWaiting (lines_in lined fall) waiters order
  pub falling : MayFall lined fall
  pub listing : length waiters ≤ vec_capacity fall.sorted
