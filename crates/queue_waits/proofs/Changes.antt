-- The waiting requests after each call.
use Rattle.std.proofs.Common.{◌≡◌, ◌<◌, ℕ, zero, suc, replicate, slice_index_or, List, [], ◌∷◌, ◌++◌, Option, None}
use Rattle.std.proofs.Common.{Some, option_map, drop, slice_get, length, Contains, refl, ap, sym, ◌∙◌, subst, arith, inl, inr, IsPermutation}
use Rattle.std.specs.List.{sum_by}
use Rattle.std.specs.Option.{option_to_list}
use Rattle.std.proofs.Math.ListN.{set, length-set}
use Rattle.std.proofs.lemmas.Cmp.{tied_itself}
use Rattle.std.proofs.lemmas.List.{set-set, set-get_or, length-replicate}
use Rattle.std.proofs.lemmas.List.Sorted.{IsPermutation-refl}
use Rattle.std.proofs.lemmas.Option.{same_Some}
use Rattle.due_key.specs.declared.key.Key.{Key}
use Rattle.due_key.specs.Order.{key_cmp}
use Rattle.due_key.proofs.KeyOrder.{key_cmp_total}
use Rattle.log_entries.specs.declared.queue.Queue.{Queue}
use Rattle.log_entries.specs.declared.queue.Queue.TheVariants.{Backend, Server}
use Rattle.base_lists.proofs.Places.{get-set_same, get-set_cases, nil_from_first}
use Rattle.pend_queue.specs.Pairs.{IsAscending, HaveNoCommonKey, inserted, pair_at, pairs_without}
use Rattle.base_lists.proofs.Members.{Contains-nil, Contains-head}
use Rattle.pend_queue.proofs.Ascending.{IsAscending-drop, pair_at-member}
use Rattle.pend_queue.proofs.Without.{IsAscending-without, IsPermutation-without}
use Rattle.log_entries.specs.Queues.{IsQueueOf}
use Rattle.server_pick.specs.declared.heads.Heads.{Heads}
use Rattle.queue_waits.specs.declared.waiters.Waiter.{Waiter}
use Rattle.queue_waits.specs.InQueues.{AreLinedUp, AreWaiting}
use Rattle.queue_waits.specs.Lines.{Line, Lined, line_at, first_key, with_line, with_moved, gathered}
use Rattle.queue_waits.specs.Order.{Order, with_places}
use Rattle.queue_waits.specs.Order.{places_without as without_place}
use Rattle.queue_waits.specs.Waitlists.{Waitlist, Waiters, WaitsAt, HasNoKey, WaitsFirstIn, IsHeadOf, AreFirst, moved_waiter, with_waiter_anew}
use Rattle.queue_waits.proofs.Held.{line_weight, held}
use Rattle.queue_waits.proofs.Weights.{weight_of}
use Rattle.queue_waits.proofs.Lineup.{IsWhole, gathered_whole, server_whole, gathered_up, joined_up, left_up, aside_up, first_in, none_in, waits_line}
use Rattle.queue_waits.proofs.Lineup.{line_waits}
use Rattle.base_lists.proofs.Replicated.{index-replicate, none_in_empty}
use Rattle.queue_waits.proofs.Orders.{ordered_more, ordered_less}

-- what was moved is merged
pub gather_kept : (lined next : Lined) (ws : Waiters) (order : Order) → AreWaiting lined ws order → next ≡ gathered lined → AreWaiting next ws order
gather_kept lined next ws order is merges =
    subst (λ (l : Lined). AreWaiting l ws order) (sym merges)
    (record { lined_up = gathered_up lined ws is.lined_up; order_room = is.order_room; in_order = is.in_order })

-- the head of a whole queue is its first request's key
head_first : (lined : Lined) (ws : Waiters) (head : Option Key) (queue : Queue) → AreLinedUp lined ws → lined.moved ≡ []
    → IsQueueOf (length lined.own) queue → head ≡ first_key (line_at lined queue) → IsHeadOf head queue ws
head_first lined ws head queue is none within told =
    subst (λ (h : Option Key). IsHeadOf h queue ws) (sym told) (by_first (slice_get (line_at lined queue) 0) refl)
  where
    by_first : (first : Option (Key × ℕ)) → slice_get (line_at lined queue) 0 ≡ first → IsHeadOf (option_map (λ pair. pair.0) first) queue ws
    by_first None e = none_in lined ws queue is (gathered_whole lined queue none) e
    by_first (Some pair) e = let it = first_in lined ws queue pair.0 pair.1 is within (gathered_whole lined queue none) e in (pair.1, it.0, it.1, it.2)

pub heads_first : (lined : Lined) (order : Order) (list : Waitlist) (server : ℕ) (heads : Heads) → AreWaiting lined list.waiters order → lined.moved ≡ []
    → server < length lined.own → heads.own ≡ first_key (line_at lined (Server server)) → heads.backend ≡ first_key lined.backend
    → AreFirst server heads list
heads_first lined order list server heads is none within own other = record {
  own = head_first lined list.waiters heads.own (Server server) is.lined_up none within own;
  backend = head_first lined list.waiters heads.backend Backend is.lined_up none tt other;
}

-- a request begins to wait
pub join_kept : (lined next : Lined) (ws new : Waiters) (order after : Order) (p : ℕ) (w : Waiter) (pair : Key × ℕ) → AreWaiting lined ws order
    → lined.moved ≡ [] → pair ≡ (w.key, p)
    → IsQueueOf (length lined.own) w.queue → slice_get ws p ≡ Some None → HasNoKey ws w.key
    → next ≡ with_line lined w.queue (inserted key_cmp pair (line_at lined w.queue)) → new ≡ set ws p (Some w)
    → after ≡ with_places order (order.places ++ p ∷ []) → AreWaiting next new after
join_kept lined next ws new order after p w pair is none its within vacant fresh line written joined =
    subst (λ (l : Lined). AreWaiting l new after)
    (sym (line ∙ ap (λ (x : Key × ℕ). with_line lined w.queue (inserted key_cmp x (line_at lined w.queue))) its))
    (subst (λ (x : Waiters). AreWaiting (with_line lined w.queue (inserted key_cmp (w.key, p) (line_at lined w.queue))) x after) (sym written)
    (subst (λ (o : Order). AreWaiting (with_line lined w.queue (inserted key_cmp (w.key, p) (line_at lined w.queue))) (set ws p (Some w)) o) (sym joined)
    (let up = joined_up lined ws p w is.lined_up none within vacant fresh in record {
      lined_up = up;
      order_room = is.order_room ∙ sym is.lined_up.room ∙ sym (same_room lined w.queue (inserted key_cmp (w.key, p) (line_at lined w.queue))) ∙ up.room;
      in_order = ordered_more ws order.places p w is.in_order vacant;
    })))
  where
    same_room : (l : Lined) (q : Queue) (x : Line) → (with_line l q x).room ≡ l.room
    same_room l Backend x = refl
    same_room l (Server s) x = refl

-- a request waits no more, whose pair is gone from its queue
pub leave_kept : (lined next : Lined) (ws new : Waiters) (order after : Order) (p : ℕ) (w : Waiter) (rest : Line) → AreWaiting lined ws order
    → lined.moved ≡ [] → WaitsAt ws p w
    → IsPermutation (line_at lined w.queue) ((w.key, p) ∷ rest) → IsAscending key_cmp rest
    → next ≡ with_line lined w.queue rest → new ≡ set ws p None → after ≡ with_places order (without_place p order.places)
    → AreWaiting next new after
leave_kept lined next ws new order after p w rest is none waits parts rises line written left =
    subst (λ (l : Lined). AreWaiting l new after) (sym line)
    (subst (λ (x : Waiters). AreWaiting (with_line lined w.queue rest) x after) (sym written)
    (subst (λ (o : Order). AreWaiting (with_line lined w.queue rest) (set ws p None) o) (sym left)
    (let up = left_up lined ws p w rest is.lined_up waits parts rises (subst (HaveNoCommonKey key_cmp (with_line lined w.queue rest).backend) (sym none) tt) in
    record {
      lined_up = up;
      order_room = is.order_room ∙ sym is.lined_up.room ∙ sym (same_room lined w.queue rest) ∙ up.room;
      in_order = ordered_less ws order.places p w is.in_order waits;
    })))
  where
    same_room : (l : Lined) (q : Queue) (x : Line) → (with_line l q x).room ≡ l.room
    same_room l Backend x = refl
    same_room l (Server s) x = refl

-- a line is its first pair and the rest
first_apart : (line : Line) (pair : Key × ℕ) → slice_get line 0 ≡ Some pair → IsPermutation line (pair ∷ drop 1 line)
first_apart [] pair e = cc
first_apart (head ∷ rest) pair e =
    subst (λ (x : Key × ℕ). IsPermutation (head ∷ rest) (x ∷ rest)) (same_Some head pair e) (IsPermutation-refl (head ∷ rest))

-- what the first request of a queue is, and what is left without it
pub record Takes (lined : Lined) (ws : Waiters) (queue : Queue) (p : ℕ) (w : Waiter) : Type 0 where
  pub first : WaitsFirstIn queue ws p w
  pub parts : IsPermutation (line_at lined w.queue) ((w.key, p) ∷ drop 1 (line_at lined w.queue))
  pub rises : IsAscending key_cmp (drop 1 (line_at lined w.queue))

pub takes : (lined : Lined) (ws : Waiters) (queue : Queue) (key : Key) (p : ℕ) (w : Waiter) → AreLinedUp lined ws → IsQueueOf (length lined.own) queue
    → IsWhole lined queue → slice_get (line_at lined queue) 0 ≡ Some (key, p) → WaitsAt ws p w → Takes lined ws queue p w × (w.key ≡ key)
takes lined ws queue key p w is within whole first waits =
    let it = first_in lined ws queue key p is within whole first in
    let same : it.0 ≡ w = same_Some it.0 w (same_Some (Some it.0) (Some w) (sym it.1.waits ∙ waits)) in
    let first_so : WaitsFirstIn queue ws p w = subst (WaitsFirstIn queue ws p) same it.1 in
    let named : w.key ≡ key = ap (λ (x : Waiter). x.key) (sym same) ∙ it.2 in
    let line : line_at lined queue ≡ line_at lined w.queue = ap (line_at lined) (sym first_so.its) in (
      record {
        first = first_so;
        parts =
            first_apart (line_at lined w.queue) (w.key, p)
            (ap (λ (l : Line). slice_get l 0) (sym line) ∙ first ∙ ap (λ (k : Key). Some (k, p)) (sym named));
        rises = IsAscending-drop key_cmp (line_at lined w.queue) (is.ascending w.queue);
      },
      named,
    )

-- a request's pair is in its queue, and what is left without it
pub record Leaves (lined : Lined) (p : ℕ) (w : Waiter) : Type 0 where
  pub there : pair_at key_cmp w.key (line_at lined w.queue) ≡ Some (w.key, p)
  pub parts : IsPermutation (line_at lined w.queue) ((w.key, p) ∷ pairs_without key_cmp w.key (line_at lined w.queue))
  pub rises : IsAscending key_cmp (pairs_without key_cmp w.key (line_at lined w.queue))

pub leaves : (lined : Lined) (ws : Waiters) (p : ℕ) (w : Waiter) → AreLinedUp lined ws → lined.moved ≡ [] → WaitsAt ws p w → Leaves lined p w
leaves lined ws p w is none waits =
    let line = line_at lined w.queue in
    let among = waits_line lined ws p w is (gathered_whole lined w.queue none) waits in
    let found = pair_at-member key_cmp_total w.key line (w.key, p) (is.ascending w.queue) among (tied_itself key_cmp_total w.key) in
    record {
      there = found;
      parts =
          subst (λ (o : Option (Key × ℕ)). IsPermutation line (option_to_list o ++ pairs_without key_cmp w.key line)) found
          (IsPermutation-without key_cmp_total w.key line (is.ascending w.queue));
      rises = IsAscending-without key_cmp w.key line (is.ascending w.queue);
    }

-- nobody else has the key of a request that has left
fresh_key : (ws : Waiters) (p : ℕ) (w : Waiter)
    → ((place other : ℕ) (x y : Waiter) → WaitsAt ws place x → WaitsAt ws other y → x.key ≡ y.key → place ≡ other) → WaitsAt ws p w
    → HasNoKey (set ws p None) w.key
fresh_key ws p w own waits place v there same =
    elim (get-set_cases ws p place (Some w) None (Some v) waits there) [
      | inl here ↦ let no : None ≡ Some v = here.1 in cc
      | inr it ↦ it.0 (own place p v w it.1 waits same)
    ]

-- a request is moved from a server's queue into the backend's
pub shift_kept : (lined next : Lined) (ws new : Waiters) (order after : Order) (p s : ℕ) (w moved : Waiter) (pair : Key × ℕ) → AreWaiting lined ws order
    → Takes lined ws (Server s) p w → pair ≡ (w.key, p) → moved.key ≡ w.key → moved.queue ≡ Backend
    → next ≡ with_moved (with_line lined (Server s) (drop 1 (line_at lined (Server s)))) (inserted key_cmp pair lined.moved)
    → new ≡ set ws p (Some moved) → after ≡ with_places order (without_place p order.places ++ p ∷ []) → AreWaiting next new after
shift_kept lined next ws new order after p s w moved pair is take its key backend line written joined =
    let its_queue : w.queue ≡ Server s = take.first.its in
    let rest : Line = drop 1 (line_at lined w.queue) in
    let mid : Lined = with_line lined w.queue rest in
    let apart : HaveNoCommonKey key_cmp mid.backend lined.moved = subst (λ (q : Queue). HaveNoCommonKey key_cmp (with_line lined q rest).backend lined.moved)
    (sym its_queue) is.lined_up.apart in
    let left = left_up lined ws p w rest is.lined_up take.first.waits take.parts take.rises apart in
    let gone : slice_get (set ws p None) p ≡ Some None = get-set_same ws p (Some w) None take.first.waits in
    let fresh : HasNoKey (set ws p None) moved.key = subst (HasNoKey (set ws p None)) (sym key) (fresh_key ws p w is.lined_up.own_keys take.first.waits) in
    let up = aside_up mid (set ws p None) p moved left backend gone fresh in
    let twice : set (set ws p None) p (Some moved) ≡ set ws p (Some moved) = set-set ws p None (Some moved) in
    let same : next ≡ with_moved mid (inserted key_cmp (moved.key, p) mid.moved) =
    line ∙ ap (λ (x : Key × ℕ). with_moved (with_line lined (Server s) (drop 1 (line_at lined (Server s)))) (inserted key_cmp x lined.moved))
    (its ∙ ap (λ (k : Key). (k, p)) (sym key))
    ∙ ap (λ (q : Queue). with_moved (with_line lined q (drop 1 (line_at lined q))) (inserted key_cmp (moved.key, p) lined.moved)) (sym its_queue)
    ∙ ap (λ (m : Line). with_moved mid (inserted key_cmp (moved.key, p) m)) (sym (same_moved lined w.queue rest)) in
    subst (λ (l : Lined). AreWaiting l new after) (sym same)
    (subst (λ (x : Waiters). AreWaiting (with_moved mid (inserted key_cmp (moved.key, p) mid.moved)) x after) (twice ∙ sym written)
    (subst (λ (o : Order). AreWaiting (with_moved mid (inserted key_cmp (moved.key, p) mid.moved)) (set (set ws p None) p (Some moved)) o) (sym joined)
    (record {
      lined_up = up;
      order_room = is.order_room ∙ sym is.lined_up.room ∙ sym (same_room lined w.queue rest) ∙ up.room;
      in_order = ordered_more (set ws p None) (without_place p order.places) p moved (ordered_less ws order.places p w is.in_order take.first.waits) gone;
    })))
  where
    same_room : (l : Lined) (q : Queue) (x : Line) → (with_line l q x).room ≡ l.room
    same_room l Backend x = refl
    same_room l (Server s) x = refl

    same_moved : (l : Lined) (q : Queue) (x : Line) → (with_line l q x).moved ≡ l.moved
    same_moved l Backend x = refl
    same_moved l (Server s) x = refl

-- nobody was in a queue, and none is taken from it
pub nothing_popped : (lined left : Lined) (queue : Queue) → None ≡ slice_get (line_at lined queue) 0
    → left ≡ with_line lined queue (drop 1 (line_at lined queue)) → left ≡ lined
nothing_popped lined left queue none goes =
    let empty = nil_from_first (line_at lined queue) none in
    goes ∙ ap (λ (w : Line). with_line lined queue (drop 1 w)) empty ∙ by_queue queue empty
  where
    by_queue : (q : Queue) → line_at lined q ≡ [] → with_line lined q [] ≡ lined
    by_queue Backend e = ap (λ (w : Line). record { own = lined.own; backend = w; moved = lined.moved; room = lined.room }) (sym e)
    by_queue (Server s) e =
        ap (λ (l : List Line). record { own = l; backend = lined.backend; moved = lined.moved; room = lined.room })
        (ap (set lined.own s) (sym e) ∙ set-get_or lined.own s [])

-- nobody waits at first
pub none_wait : (lined : Lined) (ws : Waiters) (order : Order) (servers places : ℕ)
    → lined ≡ record { own = replicate servers []; backend = []; moved = []; room = places } → ws ≡ replicate places None
    → order ≡ record { places = []; room = places } → AreWaiting lined ws order
none_wait lined ws order servers places queues cells joined =
    subst (λ (l : Lined). AreWaiting l ws order) (sym queues)
    (subst (λ (x : Waiters). AreWaiting start x order) (sym cells) (subst (AreWaiting start (replicate places None)) (sym joined) (record {
      lined_up = record {
        holds = λ queue within. held start (replicate places None) queue (by_queue queue within);
        ascending = rising;
        moved = tt;
        apart = tt;
        room = sym (length-replicate places None);
        within = λ place w waits. absurd (none_in_empty places place w waits);
        own_keys = λ place other w v waits there same. absurd (none_in_empty places place w waits);
      };
      order_room = sym (length-replicate places None);
      in_order = record {
        once = tt;
        waits = λ place among. absurd (Contains-nil place among);
        all = λ place w waits. absurd (none_in_empty places place w waits);
      };
    })))
  where
    start : Lined
    start = record { own = replicate servers []; backend = []; moved = []; room = places }

    light : (weight : Key × ℕ → ℕ) (queue : Queue) (n at : ℕ) → weight_of weight queue at (replicate n None) ≡ 0
    light weight queue zero at = refl
    light weight queue (suc n) at = let rest = light weight queue n (suc at) in omega arith

    by_queue : (queue : Queue) → IsQueueOf (length (replicate {A = Line} servers [])) queue → (weight : Key × ℕ → ℕ)
        → line_weight weight (record { own = replicate servers []; backend = []; moved = []; room = places }) queue ≡ weight_of weight queue 0
        (replicate places None)
    by_queue Backend within weight = let rest = light weight Backend places 0 in let none : sum_by weight [] ≡ 0 = refl in omega arith
    by_queue (Server s) within weight =
        let rest = light weight (Server s) places 0 in let none : sum_by weight (slice_index_or (replicate servers []) s []) ≡ 0 =
        ap (sum_by weight) (index-replicate servers s []) in omega arith

    rising : (queue : Queue) → IsAscending key_cmp (line_at (record { own = replicate servers []; backend = []; moved = []; room = places }) queue)
    rising Backend = tt
    rising (Server s) = subst (IsAscending key_cmp) (sym (index-replicate servers s [])) tt

-- a queue's first pair, as a node that was taken tells it
pub first_of_node : {N : Type 0} (pair_of : N → Key × ℕ) (line : Line) (taken : Option N) (node : N) (key : Key) (place : ℕ)
    → option_map pair_of taken ≡ slice_get line 0 → taken ≡ Some node → pair_of node ≡ (key, place) → slice_get line 0 ≡ Some (key, place)
first_of_node pair_of line taken node key place first is pair = sym first ∙ ap (option_map pair_of) is ∙ ap Some pair

-- who stands first in a queue
pub stands_first : (lined : Lined) (ws : Waiters) (queue : Queue) (key : Key) (place : ℕ) → AreLinedUp lined ws → IsQueueOf (length lined.own) queue
    → slice_get (line_at lined queue) 0 ≡ Some (key, place) → (w : Waiter) × WaitsAt ws place w × (w.queue ≡ queue) × (w.key ≡ key)
stands_first lined ws queue key place is within first = by_line (line_at lined queue) refl first
  where
    by_line : (line : Line) → line_at lined queue ≡ line → slice_get line 0 ≡ Some (key, place)
        → (w : Waiter) × WaitsAt ws place w × (w.queue ≡ queue) × (w.key ≡ key)
    by_line [] e at = cc
    by_line (head ∷ rest) e at =
        line_waits lined ws queue key place is within
        (subst (λ (l : Line). Contains l (key, place)) (sym e) (subst (Contains (head ∷ rest)) (same_Some head (key, place) at) (Contains-head head rest)))

-- the first request of a queue is taken
pub take_kept : (lined next : Lined) (ws new : Waiters) (order after : Order) (p : ℕ) (w : Waiter) (queue : Queue) (key : Key) → AreWaiting lined ws order
    → lined.moved ≡ [] → IsQueueOf (length lined.own) queue → slice_get (line_at lined queue) 0 ≡ Some (key, p) → WaitsAt ws p w
    → next ≡ with_line lined queue (drop 1 (line_at lined queue)) → new ≡ set ws p None → after ≡ with_places order (without_place p order.places)
    → AreWaiting next new after
take_kept lined next ws new order after p w queue key is none within first waits line written left =
    let it = (takes lined ws queue key p w is.lined_up within (gathered_whole lined queue none) first waits).0 in
    leave_kept lined next ws new order after p w (drop 1 (line_at lined w.queue)) is none waits it.parts it.rises
    (subst (λ (q : Queue). next ≡ with_line lined q (drop 1 (line_at lined q))) (sym it.first.its) line) written left

-- the first request of a server's queue has left it
pub shift_left : (lined : Lined) (ws : Waiters) (p s : ℕ) (w : Waiter) → AreLinedUp lined ws → Takes lined ws (Server s) p w
    → AreLinedUp (with_line lined (Server s) (drop 1 (line_at lined (Server s)))) (set ws p None)
shift_left lined ws p s w is take =
    subst (λ (q : Queue). AreLinedUp (with_line lined q (drop 1 (line_at lined q))) (set ws p None)) take.first.its
    (left_up lined ws p w (drop 1 (line_at lined w.queue)) is take.first.waits take.parts take.rises
    (subst (λ (q : Queue). HaveNoCommonKey key_cmp (with_line lined q (drop 1 (line_at lined q))).backend lined.moved) (sym take.first.its) is.apart))

pub shift_fresh : (lined : Lined) (ws : Waiters) (p : ℕ) (w : Waiter) → AreLinedUp lined ws → WaitsAt ws p w → HasNoKey (set ws p None) w.key
shift_fresh lined ws p w is waits = fresh_key ws p w is.own_keys waits

pub shift_gone : (ws : Waiters) (p : ℕ) (w : Waiter) → WaitsAt ws p w → slice_get (set ws p None) p ≡ Some None
shift_gone ws p w waits = get-set_same ws p (Some w) None waits

-- a cell in which a request waits isn't empty
pub missing : (ws : Waiters) (p : ℕ) (w : Waiter) (found : Option Waiter) → WaitsAt ws p w → slice_get ws p ≡ Some found → found ≡ None → ⊥
missing ws p w found waits there none = let no : None ≡ Some w = sym none ∙ same_Some found (Some w) (sym there ∙ waits) in cc

-- the first request of a server's queue and its waiter, as they are found
pub record Shifts (lined : Lined) (ws : Waiters) (s : ℕ) (key : Key) (p : ℕ) : Type 0 where
  pub waiter : Waiter
  pub take : Takes lined ws (Server s) p waiter
  pub named : waiter.key ≡ key

pub shifts : (lined : Lined) (ws : Waiters) (s : ℕ) (key : Key) (p : ℕ) → AreLinedUp lined ws → IsQueueOf (length lined.own) (Server s)
    → slice_get (line_at lined (Server s)) 0 ≡ Some (key, p) → Shifts lined ws s key p
shifts lined ws s key p is within first =
    let it = stands_first lined ws (Server s) key p is within first in
    let took = takes lined ws (Server s) key p it.0 is within (server_whole lined s) first it.1 in
    record { waiter = it.0; take = took.0; named = took.1 }

-- what is seen once a request was moved
pub shifted_view : (lined next : Lined) (ws new : Waiters) (order after : Order) (now : Waitlist) (p s joined : ℕ) (w moved : Waiter) (line : Line)
    → record { waiters = ws; order = order.places; servers = length lined.own } ≡ now
    → next ≡ with_moved (with_line lined (Server s) line) (inserted key_cmp (w.key, p) lined.moved) → new ≡ set ws p (Some moved)
    → after ≡ with_places order (without_place p order.places ++ p ∷ []) → moved ≡ moved_waiter w joined
    → record { waiters = new; order = after.places; servers = length next.own } ≡ with_waiter_anew now p (moved_waiter w joined)
shifted_view lined next ws new order after now p s joined w moved line seen goes written joins is =
    let many : length next.own ≡ length lined.own = ap (λ (l : Lined). length l.own) goes ∙ length-set lined.own s line in
    ap (λ (x : Waiters). record { waiters = x; order = after.places; servers = length next.own }) (written ∙ ap (λ (m : Waiter). set ws p (Some m)) is)
    ∙ ap (λ (o : Order). record { waiters = set ws p (Some (moved_waiter w joined)); order = o.places; servers = length next.own }) joins
    ∙ ap (λ n. record { waiters = set ws p (Some (moved_waiter w joined)); order = without_place p order.places ++ p ∷ []; servers = n }) many
    ∙ ap (λ (l : Waitlist). with_waiter_anew l p (moved_waiter w joined)) seen
