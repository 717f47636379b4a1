-- How the waiting requests are kept in queues.
use Rattle.std.specs.Prelude.{◌≡◌, ℕ, suc, [], ◌∷◌, ◌++◌, Option, None, Some, length, if◌then◌else◌}
use Rattle.std.specs.List.Sorted.{IsPermutation}
use Rattle.due_key.specs.Order.{key_cmp}
use Rattle.log_entries.specs.declared.queue.Queue.{Queue}
use Rattle.log_entries.specs.declared.queue.Queue.TheVariants.{Backend, Server}
use Rattle.log_entries.specs.Rows.{same_queue}
use Rattle.pend_queue.specs.Pairs.{IsAscending, HaveNoCommonKey}
use Rattle.log_entries.specs.Queues.{IsQueueOf}
use Rattle.queue_waits.specs.declared.waiters.Waiter.{Waiter}
use Rattle.queue_waits.specs.Lines.{Line, Lined, line_at}
use Rattle.queue_waits.specs.Order.{Order}
use Rattle.queue_waits.specs.Waitlists.{Waiters, WaitsAt, IsOrderOf}

-- the key of the request at a place, with the place, where it waits in a queue
abbrev pub pair_in : Queue → ℕ → Option Waiter → Line
pair_in queue place None = []
pair_in queue place (Some waiter) = if same_queue queue waiter.queue then (waiter.key, place) ∷ [] else []

-- the keys of the requests that wait in a queue, each with its place, from a place on
abbrev pub pairs_in : Queue → ℕ → Waiters → Line
pairs_in queue place [] = []
pairs_in queue place (waiter ∷ later) = pair_in queue place waiter ++ pairs_in queue (suc place) later

-- what a queue holds, the backend's with what was moved into it
abbrev pub held_in : Lined → Queue → Line
held_in lined Backend = lined.backend ++ lined.moved
held_in lined (Server server) = line_at lined (Server server)

-- each queue holds the keys of those that wait in it with their places, in some order, and each of its parts by rising key;
-- no key is in both parts of the backend's queue, and no two requests have one key
pub record AreLinedUp (lined : Lined) (waiters : Waiters) : Type 0 where
  pub holds : (queue : Queue) → IsQueueOf (length lined.own) queue → IsPermutation (pairs_in queue 0 waiters) (held_in lined queue)
  pub ascending : (queue : Queue) → IsAscending key_cmp (line_at lined queue)
  pub moved : IsAscending key_cmp lined.moved
  pub apart : HaveNoCommonKey key_cmp lined.backend lined.moved
  pub room : lined.room ≡ length waiters
  pub within : (place : ℕ) (waiter : Waiter) → WaitsAt waiters place waiter → IsQueueOf (length lined.own) waiter.queue
  pub own_keys : (place other : ℕ) (waiter its : Waiter) → WaitsAt waiters place waiter → WaitsAt waiters other its → waiter.key ≡ its.key
      → place ≡ other

-- the waiting requests are in the queues, and in the order in which they joined
pub record AreWaiting (lined : Lined) (waiters : Waiters) (order : Order) : Type 0 where
  pub lined_up : AreLinedUp lined waiters
  pub order_room : order.room ≡ length waiters
  pub in_order : IsOrderOf waiters order.places
