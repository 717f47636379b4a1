-- The queues where those that wait joined before the log's first entry.
use Rattle.std.proofs.Common.{◌≡◌, ℕ, zero, suc, [], ◌∷◌, ◌++◌, None, Some, option_map, map, length, refl, ap, sym, ◌∙◌, subst, IsPermutation}
use Rattle.std.proofs.lemmas.List.{length-map}
use Rattle.std.proofs.lemmas.Option.{same_Some}
use Rattle.log_entries.specs.declared.queue.Queue.{Queue}
use Rattle.log_entries.specs.Queues.{IsQueueOf}
use Rattle.queue_waits.specs.declared.waiters.Waiter.{Waiter}
use Rattle.queue_waits.specs.InQueues.{pair_in, pairs_in, held_in, AreLinedUp, AreWaiting}
use Rattle.queue_waits.specs.Lines.{Line, Lined}
use Rattle.queue_waits.specs.Order.{Order}
use Rattle.queue_waits.specs.Waitlists.{Waiters, WaitsAt, since_before}

abbrev from_start : Waiter → Waiter
from_start waiter = record { key = waiter.key; queue = waiter.queue; joined = 0 }

-- they have the same pairs
same_pairs : (queue : Queue) (at : ℕ) (ws : Waiters) → pairs_in queue at (map since_before ws) ≡ pairs_in queue at ws
same_pairs queue at [] = refl
same_pairs queue at (None ∷ ws) = same_pairs queue (suc at) ws
same_pairs queue at (Some w ∷ ws) = ap (λ (l : Line). pair_in queue at (Some w) ++ l) (same_pairs queue (suc at) ws)

-- and wait at the same places
still_waits : (ws : Waiters) (place : ℕ) (w : Waiter) → WaitsAt ws place w → WaitsAt (map since_before ws) place (from_start w)
still_waits [] place w stood = cc
still_waits (x ∷ ws) zero w stood = ap (option_map since_before) stood
still_waits (x ∷ ws) (suc place) w stood = still_waits ws place w stood

waited : (ws : Waiters) (place : ℕ) (v : Waiter) → WaitsAt (map since_before ws) place v → (w : Waiter) × WaitsAt ws place w × (v ≡ from_start w)
waited [] place v stood = cc
waited (None ∷ ws) zero v stood = cc
waited (Some w ∷ ws) zero v stood = (w, refl, same_Some v (from_start w) (same_Some (Some v) (Some (from_start w)) (sym stood)))
waited (x ∷ ws) (suc place) v stood = waited ws place v stood

lined_before : (lined : Lined) (ws : Waiters) → AreLinedUp lined ws → AreLinedUp lined (map since_before ws)
lined_before lined ws is = record {
  holds = λ queue within. subst (λ (l : Line). IsPermutation l (held_in lined queue)) (sym (same_pairs queue 0 ws)) (is.holds queue within);
  ascending = is.ascending;
  moved = is.moved;
  apart = is.apart;
  room = is.room ∙ sym (length-map ws since_before);
  within = λ place v stood.
      let it = waited ws place v stood in subst (λ (x : Waiter). IsQueueOf (length lined.own) x.queue) (sym it.2) (is.within place it.0 it.1);
  own_keys = λ place other v its stood others same.
      let one = waited ws place v stood in
      let two = waited ws other its others in
      is.own_keys place other one.0 two.0 one.1 two.1 (ap (λ (x : Waiter). x.key) (sym one.2) ∙ same ∙ ap (λ (x : Waiter). x.key) two.2);
}

pub waiting_before : (lined : Lined) (ws after : Waiters) (order : Order) → AreWaiting lined ws order → after ≡ map since_before ws
    → AreWaiting lined after order
waiting_before lined ws after order is are = subst (λ l. AreWaiting lined l order) (sym are) record {
  lined_up = lined_before lined ws is.lined_up;
  order_room = is.order_room ∙ sym (length-map ws since_before);
  in_order = record {
    once = is.in_order.once;
    waits = λ place among. let it = is.in_order.waits place among in (from_start it.0, still_waits ws place it.0 it.1);
    all = λ place v stood. let it = waited ws place v stood in is.in_order.all place it.0 it.1;
  };
}
