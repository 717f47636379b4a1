-- What lists of pairs and of waiting requests weigh.
use Rattle.std.proofs.Common.{◌≡◌, ℕ, suc, ◌+◌, ◌<◌, ◌≤◌, Bool, true, false, cond, [], ◌∷◌, Option, None}
use Rattle.std.proofs.Common.{Some, slice_get, length, refl, ap, subst, arith}
use Rattle.std.proofs.Math.ListN.{set}
use Rattle.due_key.specs.declared.key.Key.{Key}
use Rattle.log_entries.specs.declared.queue.Queue.{Queue}
use Rattle.log_entries.specs.declared.queue.Queue.TheVariants.{Backend, Server}
use Rattle.log_entries.specs.Rows.{same_queue}
use Rattle.base_lists.proofs.Positions.{item_stands, stands_item, along-set, along_le, along_found, along_length}
use Rattle.queue_waits.specs.declared.waiters.Waiter.{Waiter}
use Rattle.queue_waits.specs.Waitlists.{Waiters, WaitsAt}
use Rattle.base_lists.specs.Weights.{along}

-- what the request at a place weighs in a queue, where a pair of key and place has a weight
abbrev pub weight_at : (Key × ℕ → ℕ) → Queue → ℕ → Option Waiter → ℕ
weight_at weight queue place None = 0
weight_at weight queue place (Some waiter) = cond (same_queue queue waiter.queue) (weight (waiter.key, place)) 0

-- what the requests from a place on weigh in a queue together
abbrev pub weight_of : (Key × ℕ → ℕ) → Queue → ℕ → Waiters → ℕ
weight_of weight queue = along (weight_at weight queue)

module _ (weight : Key × ℕ → ℕ) (queue : Queue) where
  -- the weight of a write
  pub weight_set : (at : ℕ) (ws : Waiters) (p : ℕ) (old new : Option Waiter) → slice_get ws p ≡ Some old
      → weight_of weight queue at (set ws p new) + weight_at weight queue (at + p) old ≡ weight_of weight queue at ws + weight_at weight queue (at + p) new
  weight_set at ws p old new stood = along-set (weight_at weight queue) ws at p (at + p) old new refl (item_stands ws p old stood)

  -- none weighs more than all
  pub weight_has : (at : ℕ) (ws : Waiters) (p : ℕ) (cell : Option Waiter) → slice_get ws p ≡ Some cell
      → weight_at weight queue (at + p) cell ≤ weight_of weight queue at ws
  weight_has at ws p cell stood = along_le (weight_at weight queue) ws at p (at + p) cell refl (item_stands ws p cell stood)

  -- what weighs something has a request that does
  pub record Weighs (at : ℕ) (ws : Waiters) : Type 0 where
    pub place : ℕ
    pub waiter : Waiter
    pub waits : WaitsAt ws place waiter
    pub its : same_queue queue waiter.queue ≡ true
    pub heavy : 0 < weight (waiter.key, at + place)

  pub weight_found : (at : ℕ) (ws : Waiters) → 0 < weight_of weight queue at ws → Weighs at ws
  weight_found at ws heavy =
      let it = along_found (weight_at weight queue) ws at heavy in
      by_cell it.0 it.1 it.2 it.3 (stands_item ws it.0 it.2 it.4) it.5
    where
      by_cell : (p k : ℕ) (cell : Option Waiter) → k ≡ at + p → slice_get ws p ≡ Some cell → 0 < weight_at weight queue k cell → Weighs at ws
      by_cell p k None is stood heavy = absurd (omega (arith, heavy))
      by_cell p k (Some w) is stood heavy = by_queue (same_queue queue w.queue) refl
        where
          weighs : (b : Bool) → same_queue queue w.queue ≡ b → weight_at weight queue k (Some w) ≡ cond b (weight (w.key, k)) 0
          weighs b e = ap {B = ℕ} (λ (t : Bool). cond t (weight (w.key, k)) 0) e

          by_queue : (b : Bool) → same_queue queue w.queue ≡ b → Weighs at ws
          by_queue true e = record {
            place = p;
            waiter = w;
            waits = stood;
            its = e;
            heavy = subst (λ n. 0 < weight (w.key, n)) is (omega (arith, heavy, weighs true e));
          }
          by_queue false e = absurd (omega (arith, heavy, weighs false e))

-- no more requests wait in a queue than there are places
pub weight_most : (queue : Queue) (at : ℕ) (ws : Waiters) → weight_of (λ pair. 1) queue at ws ≤ length ws
weight_most queue at ws = along_length (weight_at (λ pair. 1) queue) at_most_one ws at
  where
    of_test : (b : Bool) → cond {A = ℕ} b 1 0 ≤ 1
    of_test true = omega arith
    of_test false = omega arith

    at_most_one : (n : ℕ) (cell : Option Waiter) → weight_at (λ pair. 1) queue n cell ≤ 1
    at_most_one n None = omega arith
    at_most_one n (Some w) = of_test (same_queue queue w.queue)

-- nor in two queues together
pub weight_both : (server at : ℕ) (ws : Waiters) → weight_of (λ pair. 1) Backend at ws + weight_of (λ pair. 1) (Server server) at ws ≤ length ws
weight_both server at [] = omega arith
weight_both server at (None ∷ ws) = omega (arith, weight_both server (suc at) ws)
weight_both server at (Some w ∷ ws) = let one = in_one w.queue in omega (arith, weight_both server (suc at) ws)
  where
    at_most_one : (b : Bool) → cond {A = ℕ} b 1 0 ≤ 1
    at_most_one true = omega arith
    at_most_one false = omega arith

    in_one : (queue : Queue) → cond {A = ℕ} (same_queue Backend queue) 1 0 + cond {A = ℕ} (same_queue (Server server) queue) 1 0 ≤ 1
    in_one Backend = omega arith
    in_one (Server other) = let few = at_most_one (same_queue (Server server) (Server other)) in omega arith
