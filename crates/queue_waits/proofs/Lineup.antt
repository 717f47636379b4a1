-- The queues while one request begins or stops to wait.
use Rattle.std.proofs.Common.{◌≡◌, ◌≢◌, ℕ, ◌+◌, ◌<◌, ◌≤◌, Bool, true, false, cond, [], ◌∷◌}
use Rattle.std.proofs.Common.{◌++◌, Option, None, Some, slice_get, length, Contains, refl, ap, sym, ◌∙◌, subst, arith, inl, inr}
use Rattle.std.proofs.Common.{Greater, IsPermutation}
use Rattle.std.specs.List.{sum_by}
use Rattle.std.proofs.Math.ListN.{set, length-set}
use Rattle.std.proofs.lemmas.List.Sorted.{sum_by-IsPermutation}
use Rattle.std.proofs.lemmas.List.Sums.{sum_by-cons, sum_by-append}
use Rattle.std.proofs.lemmas.Option.{same_Some}
use Rattle.due_key.specs.declared.key.Key.{Key}
use Rattle.due_key.specs.Order.{key_cmp}
use Rattle.due_key.proofs.KeyOrder.{key_cmp_total, key_cmp_exact}
use Rattle.log_entries.specs.declared.queue.Queue.{Queue}
use Rattle.log_entries.specs.declared.queue.Queue.TheVariants.{Backend, Server}
use Rattle.log_entries.specs.Rows.{same_queue}
use Rattle.base_lists.proofs.Places.{get-set_cases}
use Rattle.pend_queue.specs.Pairs.{IsAscending, KeyIsAbsent, HaveNoCommonKey, inserted, merged}
use Rattle.pend_queue.proofs.Ascending.{absent_from_members, least_first}
use Rattle.pend_queue.proofs.Inserted.{IsAscending-inserted, IsPermutation-inserted, AllByRecursion-inserted}
use Rattle.base_lists.proofs.Members.{Contains-nil, Contains-head}
use Rattle.pend_queue.proofs.Merged.{IsAscending-merged, IsPermutation-merged}
use Rattle.log_entries.specs.Queues.{IsQueueOf}
use Rattle.log_entries.proofs.Choices.{queue_same, queue_own}
use Rattle.queue_waits.specs.declared.waiters.Waiter.{Waiter}
use Rattle.queue_waits.specs.InQueues.{AreLinedUp}
use Rattle.queue_waits.specs.Lines.{Line, Lined, line_at, with_line, with_moved, gathered}
use Rattle.queue_waits.specs.Waitlists.{Waiters, WaitsAt, HasNoKey, NoneWaitsIn, WaitsFirstIn}
use Rattle.queue_waits.proofs.Lining.{one_or_other, line_own, line_other, lines_kept, room_kept}
use Rattle.base_lists.proofs.Sums.{sum_has, sum_found, sum_ones}
use Rattle.queue_waits.proofs.Held.{one_pair, its_weight, that_pair, line_weight, weighs, held}
use Rattle.queue_waits.proofs.Weights.{weight_at, weight_of, weight_set, weight_has, weight_found, weight_most}

-- a queue weighs at least what its line does, and just that where nothing was moved into it
line_le : (weight : Key × ℕ → ℕ) (lined : Lined) (queue : Queue) → sum_by weight (line_at lined queue) ≤ line_weight weight lined queue
line_le weight lined Backend = omega arith
line_le weight lined (Server s) = omega arith

-- all that waits in a queue is in its line
abbrev pub IsWhole : Lined → Queue → Type 0
IsWhole lined queue = (weight : Key × ℕ → ℕ) → line_weight weight lined queue ≡ sum_by weight (line_at lined queue)

pub server_whole : (lined : Lined) (server : ℕ) → IsWhole lined (Server server)
server_whole lined server weight = refl

pub gathered_whole : (lined : Lined) (queue : Queue) → lined.moved ≡ [] → IsWhole lined queue
gathered_whole lined Backend none weight = let light : sum_by weight lined.moved ≡ 0 = ap (sum_by weight) none in omega arith
gathered_whole lined (Server s) none weight = refl

-- a request whose pair weighs something
found_there : (ws : Waiters) (queue : Queue) (key : Key) (place : ℕ) → 0 < weight_of (one_pair key place) queue 0 ws
    → (w : Waiter) × WaitsAt ws place w × (w.queue ≡ queue) × (w.key ≡ key)
found_there ws queue key place heavy =
    let it = weight_found (one_pair key place) queue 0 ws heavy in
    let is = that_pair key place (it.waiter.key, 0 + it.place) it.heavy in
    let there : it.place ≡ place = (let e : 0 + it.place ≡ place = is.1 in omega arith) in
    (it.waiter, subst (λ n. WaitsAt ws n it.waiter) there it.waits, sym (queue_same queue it.waiter.queue it.its), is.0)

-- who is in a queue waits
pub line_waits : (lined : Lined) (ws : Waiters) (queue : Queue) (key : Key) (place : ℕ) → AreLinedUp lined ws → IsQueueOf (length lined.own) queue
    → Contains (line_at lined queue) (key, place)
    → (w : Waiter) × WaitsAt ws place w × (w.queue ≡ queue) × (w.key ≡ key)
line_waits lined ws queue key place is within among =
    let one = its_weight key place in
    let some = sum_has (one_pair key place) (line_at lined queue) (key, place) among in
    let all = line_le (one_pair key place) lined queue in
    let all_weighs = weighs lined ws is queue within (one_pair key place) in
    found_there ws queue key place (omega arith)

pub moved_waits : (lined : Lined) (ws : Waiters) (key : Key) (place : ℕ) → AreLinedUp lined ws → Contains lined.moved (key, place)
    → (w : Waiter) × WaitsAt ws place w × (w.queue ≡ Backend) × (w.key ≡ key)
moved_waits lined ws key place is among =
    let one = its_weight key place in
    let some = sum_has (one_pair key place) lined.moved (key, place) among in
    let all_weighs : sum_by (one_pair key place) lined.backend + sum_by (one_pair key place) lined.moved ≡ weight_of (one_pair key place) Backend 0 ws =
    weighs lined ws is Backend tt (one_pair key place) in
    found_there ws Backend key place (omega arith)

-- who waits is in its queue
pub waits_line : (lined : Lined) (ws : Waiters) (place : ℕ) (w : Waiter) → AreLinedUp lined ws → IsWhole lined w.queue → WaitsAt ws place w
    → Contains (line_at lined w.queue) (w.key, place)
waits_line lined ws place w is whole waits =
    let f = one_pair w.key place in
    let one = its_weight w.key place in
    let has = weight_has f w.queue 0 ws place (Some w) waits in
    let here : weight_at f w.queue (0 + place) (Some w) ≡ f (w.key, place) = ap (λ (b : Bool). cond {A = ℕ} b (f (w.key, 0 + place)) 0) (queue_own w.queue)
    ∙ (let e : 0 + place ≡ place = omega arith in ap (λ n. f (w.key, n)) e) in
    let all_weighs = weighs lined ws is w.queue (is.within place w waits) f in
    let line = whole f in
    let it = sum_found f (line_at lined w.queue) (omega arith) in
    let same = that_pair w.key place it.0 it.2 in
    let pair : it.0 ≡ (w.key, place) = ap (λ (k : Key). (k, it.0.1)) same.0 ∙ ap (λ n. (w.key, n)) same.1 in
    subst (Contains (line_at lined w.queue)) pair it.1

-- what was moved is merged
pub gathered_up : (lined : Lined) (ws : Waiters) → AreLinedUp lined ws → AreLinedUp (gathered lined) ws
gathered_up lined ws is = record {
  holds = λ queue within. held (gathered lined) ws queue (by_queue queue within);
  ascending = ascending;
  moved = tt;
  apart = tt;
  room = is.room;
  within = is.within;
  own_keys = is.own_keys;
}
  where
    by_queue : (queue : Queue) → IsQueueOf (length lined.own) queue → (weight : Key × ℕ → ℕ)
        → line_weight weight (gathered lined) queue ≡ weight_of weight queue 0 ws
    by_queue (Server s) within weight = weighs lined ws is (Server s) within weight
    by_queue Backend within weight =
        let both = sum_by-IsPermutation weight (lined.backend ++ lined.moved) (merged key_cmp lined.backend lined.moved)
        (IsPermutation-merged key_cmp_total lined.backend lined.moved is.moved is.apart) in
        let parts = sum_by-append weight lined.backend lined.moved in
        let before : sum_by weight lined.backend + sum_by weight lined.moved ≡ weight_of weight Backend 0 ws = weighs lined ws is Backend within weight in
        let none : sum_by weight [] ≡ 0 = refl in
        omega arith

    ascending : (queue : Queue) → IsAscending key_cmp (line_at (gathered lined) queue)
    ascending (Server s) = is.ascending (Server s)
    ascending Backend = IsAscending-merged key_cmp_total lined.backend lined.moved (is.ascending Backend)

-- there is room for that
pub gather_room : (lined : Lined) (ws : Waiters) → AreLinedUp lined ws → length lined.backend + length lined.moved ≤ lined.room
gather_room lined ws is =
    let all_weighs : sum_by (λ pair. 1) lined.backend + sum_by (λ pair. 1) lined.moved ≡ weight_of (λ pair. 1) Backend 0 ws =
    weighs lined ws is Backend tt (λ pair. 1) in
    let most = weight_most Backend 0 ws in
    let one = sum_ones lined.backend in
    let two = sum_ones lined.moved in
    let room = is.room in
    omega arith

-- the weights once one queue has another line
line_changed : (weight : Key × ℕ → ℕ) (lined : Lined) (queue : Queue) (line : Line) → IsQueueOf (length lined.own) queue
    → line_weight weight (with_line lined queue line) queue + sum_by weight (line_at lined queue) ≡ line_weight weight lined queue + sum_by weight line
line_changed weight lined Backend line within = omega arith
line_changed weight lined (Server s) line within = let e = ap (sum_by weight) (line_own lined (Server s) line within) in omega arith

line_unchanged : (weight : Key × ℕ → ℕ) (lined : Lined) (queue other : Queue) (line : Line) → other ≢ queue
    → line_weight weight (with_line lined queue line) other ≡ line_weight weight lined other
line_unchanged weight lined Backend Backend line differs = absurd (differs refl)
line_unchanged weight lined Backend (Server t) line differs = refl
line_unchanged weight lined (Server s) Backend line differs = refl
line_unchanged weight lined (Server s) (Server t) line differs = ap (sum_by weight) (line_other lined (Server s) (Server t) line differs)

-- another queue's request weighs nothing in a queue, and its own weighs its pair
weight_other : (weight : Key × ℕ → ℕ) (queue : Queue) (place : ℕ) (w : Waiter) → w.queue ≢ queue → weight_at weight queue place (Some w) ≡ 0
weight_other weight queue place w differs = by_test (same_queue queue w.queue) refl
  where
    by_test : (b : Bool) → same_queue queue w.queue ≡ b → cond {A = ℕ} (same_queue queue w.queue) (weight (w.key, place)) 0 ≡ 0
    by_test true e = absurd (differs (sym (queue_same queue w.queue e)))
    by_test false e = ap (λ (b : Bool). cond {A = ℕ} b (weight (w.key, place)) 0) e

weight_own : (weight : Key × ℕ → ℕ) (place : ℕ) (w : Waiter) → weight_at weight w.queue (0 + place) (Some w) ≡ weight (w.key, place)
weight_own weight place w =
    ap (λ (b : Bool). cond {A = ℕ} b (weight (w.key, 0 + place)) 0) (queue_own w.queue)
    ∙ (let e : 0 + place ≡ place = omega arith in ap (λ n. weight (w.key, n)) e)

-- each line ascends once one of them is another one that does
lines_ascend : (lined : Lined) (queue : Queue) (line : Line) → IsQueueOf (length lined.own) queue → ((q : Queue) → IsAscending key_cmp (line_at lined q))
    → IsAscending key_cmp line → (q : Queue) → IsAscending key_cmp (line_at (with_line lined queue line) q)
lines_ascend lined queue line within all its q = elim (one_or_other q queue) [
  | inl e ↦ subst (λ (r : Queue). IsAscending key_cmp (line_at (with_line lined queue line) r)) (sym e)
      (subst (IsAscending key_cmp) (sym (line_own lined queue line within)) its)
  | inr e ↦ subst (IsAscending key_cmp) (sym (line_other lined queue q line e)) (all q)
]

moved_kept : (lined : Lined) (queue : Queue) (line : Line) → (with_line lined queue line).moved ≡ lined.moved
moved_kept lined Backend line = refl
moved_kept lined (Server s) line = refl

-- who waits after a write was there, or is new
module _ (ws : Waiters) (p : ℕ) (old new : Option Waiter) (stood : slice_get ws p ≡ Some old) where
  -- each key has one place, if the new one is nobody's else
  pub keys_kept : ((place other : ℕ) (w v : Waiter) → WaitsAt ws place w → WaitsAt ws other v → w.key ≡ v.key → place ≡ other)
      → ((w : Waiter) → new ≡ Some w → (other : ℕ) (v : Waiter) → other ≢ p → WaitsAt ws other v → v.key ≢ w.key)
      → (place other : ℕ) (w v : Waiter) → WaitsAt (set ws p new) place w → WaitsAt (set ws p new) other v → w.key ≡ v.key → place ≡ other
  keys_kept own fresh place other w v first second same =
      elim (get-set_cases ws p place old new (Some w) stood first) [
        | inl a ↦ elim (get-set_cases ws p other old new (Some v) stood second) [
          | inl b ↦ a.0 ∙ sym b.0
          | inr b ↦ absurd (fresh w a.1 other v b.0 b.1 (sym same))
        ]
        | inr a ↦ elim (get-set_cases ws p other old new (Some v) stood second) [
          | inl b ↦ absurd (fresh v b.1 place w a.0 a.1 same)
          | inr b ↦ own place other w v a.1 b.1 same
        ]
      ]

  pub within_kept : (n : ℕ) → ((place : ℕ) (w : Waiter) → WaitsAt ws place w → IsQueueOf n w.queue)
      → ((w : Waiter) → new ≡ Some w → IsQueueOf n w.queue) → (place : ℕ) (w : Waiter) → WaitsAt (set ws p new) place w → IsQueueOf n w.queue
  within_kept n all its place w waits = elim (get-set_cases ws p place old new (Some w) stood waits) [ inl a ↦ its w a.1 | inr a ↦ all place w a.1 ]

-- a key that nobody has is in no queue
pub absent_line : (lined : Lined) (ws : Waiters) (queue : Queue) (key : Key) → AreLinedUp lined ws → IsQueueOf (length lined.own) queue → HasNoKey ws key
    → KeyIsAbsent key_cmp key (line_at lined queue)
absent_line lined ws queue key is within none =
    absent_from_members key_cmp key (line_at lined queue) (λ pair among tied.
    let it = line_waits lined ws queue pair.0 pair.1 is within among in
    none pair.1 it.0 it.1 (it.3 ∙ key_cmp_exact pair.0 key tied))

pub absent_moved : (lined : Lined) (ws : Waiters) (key : Key) → AreLinedUp lined ws → HasNoKey ws key → KeyIsAbsent key_cmp key lined.moved
absent_moved lined ws key is none =
    absent_from_members key_cmp key lined.moved (λ pair among tied.
    let it = moved_waits lined ws pair.0 pair.1 is among in
    none pair.1 it.0 it.1 (it.3 ∙ key_cmp_exact pair.0 key tied))

-- a free place is room in each queue
pub join_room : (lined : Lined) (ws : Waiters) (queue : Queue) (p : ℕ) → AreLinedUp lined ws → IsQueueOf (length lined.own) queue
    → slice_get ws p ≡ Some None → (key : Key) → length (line_at lined queue) < lined.room
join_room lined ws queue p is within vacant key =
    let w : Waiter = record { key = key; queue = queue; joined = 0 } in
    let all_weighs = weighs lined ws is queue within (λ pair. 1) in
    let some = line_le (λ pair. 1) lined queue in
    let ones = sum_ones (line_at lined queue) in
    let most = weight_most queue 0 (set ws p (Some w)) in
    let more = weight_set (λ pair. 1) queue 0 ws p None (Some w) vacant in
    let one : weight_at (λ pair. 1) queue (0 + p) (Some w) ≡ 1 = ap (λ (b : Bool). cond {A = ℕ} b 1 0) (queue_own queue) in
    let long = length-set ws p (Some w) in
    let room = is.room in
    omega arith

-- and for those that are set aside
pub aside_room : (lined : Lined) (ws : Waiters) (p : ℕ) → AreLinedUp lined ws → slice_get ws p ≡ Some None → (key : Key)
    → length lined.moved < lined.room
aside_room lined ws p is vacant key =
    let w : Waiter = record { key = key; queue = Backend; joined = 0 } in
    let all_weighs : sum_by (λ pair. 1) lined.backend + sum_by (λ pair. 1) lined.moved ≡ weight_of (λ pair. 1) Backend 0 ws =
    weighs lined ws is Backend tt (λ pair. 1) in
    let ones = sum_ones lined.moved in
    let most = weight_most Backend 0 (set ws p (Some w)) in
    let more = weight_set (λ pair. 1) Backend 0 ws p None (Some w) vacant in
    let long = length-set ws p (Some w) in
    let room = is.room in
    omega arith

-- a request begins to wait
pub joined_up : (lined : Lined) (ws : Waiters) (p : ℕ) (w : Waiter) → AreLinedUp lined ws → lined.moved ≡ [] → IsQueueOf (length lined.own) w.queue
    → slice_get ws p ≡ Some None → HasNoKey ws w.key
    → AreLinedUp (with_line lined w.queue (inserted key_cmp (w.key, p) (line_at lined w.queue))) (set ws p (Some w))
joined_up lined ws p w is none within vacant fresh = record {
  holds = λ q its.
      held (with_line lined w.queue line) (set ws p (Some w)) q (by_queue q (subst (λ n. IsQueueOf n q) (lines_kept lined w.queue line) its));
  ascending =
      lines_ascend lined w.queue line within is.ascending (IsAscending-inserted key_cmp_total (w.key, p) (line_at lined w.queue) (is.ascending w.queue));
  moved = subst (IsAscending key_cmp) (sym (moved_kept lined w.queue line)) is.moved;
  apart = subst (HaveNoCommonKey key_cmp (with_line lined w.queue line).backend) (sym (moved_kept lined w.queue line ∙ none)) tt;
  room = room_kept lined w.queue line ∙ is.room ∙ sym (length-set ws p (Some w));
  within = subst (λ n. (place : ℕ) (v : Waiter) → WaitsAt (set ws p (Some w)) place v → IsQueueOf n v.queue) (sym (lines_kept lined w.queue line))
      (within_kept ws p None (Some w) vacant (length lined.own) is.within
      (λ v e. subst (λ (x : Waiter). IsQueueOf (length lined.own) x.queue) (same_Some w v e) within));
  own_keys =
      keys_kept ws p None (Some w) vacant is.own_keys
      (λ v e other u differs waits same. fresh other u waits (same ∙ ap (λ (x : Waiter). x.key) (sym (same_Some w v e))));
}
  where
    line : Line
    line = inserted key_cmp (w.key, p) (line_at lined w.queue)

    by_queue : (q : Queue) → IsQueueOf (length lined.own) q → (weight : Key × ℕ → ℕ)
        → line_weight weight (with_line lined w.queue (inserted key_cmp (w.key, p) (line_at lined w.queue))) q ≡ weight_of weight q 0 (set ws p (Some w))
    by_queue q its weight = elim (one_or_other q w.queue) [
      | inl e ↦
          let new = inserted key_cmp (w.key, p) (line_at lined w.queue) in
          let more = sum_by-IsPermutation weight ((w.key, p) ∷ line_at lined w.queue) new
          (IsPermutation-inserted key_cmp (w.key, p) (line_at lined w.queue) (absent_line lined ws w.queue w.key is within fresh)) in
          let cons = sum_by-cons weight (w.key, p) (line_at lined w.queue) in
          let change = line_changed weight lined w.queue new within in
          let before = weighs lined ws is w.queue within weight in
          let write = weight_set weight w.queue 0 ws p None (Some w) vacant in
          let own = weight_own weight p w in
          subst (λ (r : Queue). line_weight weight (with_line lined w.queue new) r ≡ weight_of weight r 0 (set ws p (Some w))) (sym e) (omega arith)
      | inr e ↦
          let same = line_unchanged weight lined w.queue q (inserted key_cmp (w.key, p) (line_at lined w.queue)) e in
          let before = weighs lined ws is q its weight in
          let write = weight_set weight q 0 ws p None (Some w) vacant in
          let light = weight_other weight q (0 + p) w (λ s. e (sym s)) in
          omega arith
    ]

-- a request waits no more: its pair is gone from its queue
pub left_up : (lined : Lined) (ws : Waiters) (p : ℕ) (w : Waiter) (rest : Line) → AreLinedUp lined ws → WaitsAt ws p w
    → IsPermutation (line_at lined w.queue) ((w.key, p) ∷ rest) → IsAscending key_cmp rest
    → HaveNoCommonKey key_cmp (with_line lined w.queue rest).backend lined.moved → AreLinedUp (with_line lined w.queue rest) (set ws p None)
left_up lined ws p w rest is waits parts rises apart = record {
  holds = λ q its. held (with_line lined w.queue rest) (set ws p None) q (by_queue q (subst (λ n. IsQueueOf n q) (lines_kept lined w.queue rest) its));
  ascending = lines_ascend lined w.queue rest (is.within p w waits) is.ascending rises;
  moved = subst (IsAscending key_cmp) (sym (moved_kept lined w.queue rest)) is.moved;
  apart = subst (HaveNoCommonKey key_cmp (with_line lined w.queue rest).backend) (sym (moved_kept lined w.queue rest)) apart;
  room = room_kept lined w.queue rest ∙ is.room ∙ sym (length-set ws p None);
  within = subst (λ n. (place : ℕ) (v : Waiter) → WaitsAt (set ws p None) place v → IsQueueOf n v.queue) (sym (lines_kept lined w.queue rest))
      (within_kept ws p (Some w) None waits (length lined.own) is.within (λ v e. cc));
  own_keys = keys_kept ws p (Some w) None waits is.own_keys (λ v e. cc);
}
  where
    by_queue : (q : Queue) → IsQueueOf (length lined.own) q → (weight : Key × ℕ → ℕ)
        → line_weight weight (with_line lined w.queue rest) q ≡ weight_of weight q 0 (set ws p None)
    by_queue q its weight = elim (one_or_other q w.queue) [
      | inl e ↦
          let less = sum_by-IsPermutation weight (line_at lined w.queue) ((w.key, p) ∷ rest) parts in
          let cons = sum_by-cons weight (w.key, p) rest in
          let change = line_changed weight lined w.queue rest (is.within p w waits) in
          let before = weighs lined ws is w.queue (is.within p w waits) weight in
          let write = weight_set weight w.queue 0 ws p (Some w) None waits in
          let own = weight_own weight p w in
          subst (λ (r : Queue). line_weight weight (with_line lined w.queue rest) r ≡ weight_of weight r 0 (set ws p None)) (sym e) (omega arith)
      | inr e ↦
          let same = line_unchanged weight lined w.queue q rest e in
          let before = weighs lined ws is q its weight in
          let write = weight_set weight q 0 ws p (Some w) None waits in
          let light = weight_other weight q (0 + p) w (λ s. e (sym s)) in
          omega arith
    ]

-- a request is set aside that was moved into the backend's queue
pub aside_up : (lined : Lined) (ws : Waiters) (p : ℕ) (w : Waiter) → AreLinedUp lined ws → w.queue ≡ Backend → slice_get ws p ≡ Some None
    → HasNoKey ws w.key
    → AreLinedUp (with_moved lined (inserted key_cmp (w.key, p) lined.moved)) (set ws p (Some w))
aside_up lined ws p w is backend vacant fresh = record {
  holds = λ q its. held (with_moved lined (inserted key_cmp (w.key, p) lined.moved)) (set ws p (Some w)) q (by_queue q its);
  ascending = by_line;
  moved = IsAscending-inserted key_cmp_total (w.key, p) lined.moved is.moved;
  apart =
      AllByRecursion-inserted key_cmp (λ (q : Key × ℕ). KeyIsAbsent key_cmp q.0 lined.backend) (w.key, p) lined.moved
      (absent_line lined ws Backend w.key is tt fresh) is.apart;
  room = is.room ∙ sym (length-set ws p (Some w));
  within =
      within_kept ws p None (Some w) vacant (length lined.own) is.within
      (λ v e. subst (IsQueueOf (length lined.own)) (sym backend ∙ ap (λ (x : Waiter). x.queue) (same_Some w v e)) tt);
  own_keys =
      keys_kept ws p None (Some w) vacant is.own_keys
      (λ v e other u differs waits same. fresh other u waits (same ∙ ap (λ (x : Waiter). x.key) (sym (same_Some w v e))));
}
  where
    by_line : (q : Queue) → IsAscending key_cmp (line_at (with_moved lined (inserted key_cmp (w.key, p) lined.moved)) q)
    by_line Backend = is.ascending Backend
    by_line (Server s) = is.ascending (Server s)

    by_queue : (q : Queue) → IsQueueOf (length lined.own) q → (weight : Key × ℕ → ℕ)
        → line_weight weight (with_moved lined (inserted key_cmp (w.key, p) lined.moved)) q ≡ weight_of weight q 0 (set ws p (Some w))
    by_queue (Server s) its weight =
        let before = weighs lined ws is (Server s) its weight in
        let write = weight_set weight (Server s) 0 ws p None (Some w) vacant in
        let light = weight_other weight (Server s) (0 + p) w (λ same. let e : Backend ≡ Server s = sym backend ∙ same in cc) in
        omega arith
    by_queue Backend its weight =
        let more = sum_by-IsPermutation weight ((w.key, p) ∷ lined.moved) (inserted key_cmp (w.key, p) lined.moved)
        (IsPermutation-inserted key_cmp (w.key, p) lined.moved (absent_moved lined ws w.key is fresh)) in
        let cons = sum_by-cons weight (w.key, p) lined.moved in
        let before : sum_by weight lined.backend + sum_by weight lined.moved ≡ weight_of weight Backend 0 ws = weighs lined ws is Backend tt weight in
        let write = weight_set weight Backend 0 ws p None (Some w) vacant in
        let own : weight_at weight Backend (0 + p) (Some w) ≡ weight (w.key, p) =
        subst (λ (q : Queue). weight_at weight q (0 + p) (Some w) ≡ weight (w.key, p)) backend (weight_own weight p w) in
        omega arith

-- a queue's first pair is that of its first request
pub first_in : (lined : Lined) (ws : Waiters) (queue : Queue) (key : Key) (place : ℕ) → AreLinedUp lined ws → IsQueueOf (length lined.own) queue
    → IsWhole lined queue → slice_get (line_at lined queue) 0 ≡ Some (key, place)
    → (w : Waiter) × WaitsFirstIn queue ws place w × (w.key ≡ key)
first_in lined ws queue key place is within whole first = by_line (line_at lined queue) refl first
  where
    by_line : (line : Line) → line_at lined queue ≡ line → slice_get line 0 ≡ Some (key, place)
        → (w : Waiter) × WaitsFirstIn queue ws place w × (w.key ≡ key)
    by_line [] e at = cc
    by_line (head ∷ rest) e at =
        let same : head ≡ (key, place) = same_Some head (key, place) at in
        let it =
        line_waits lined ws queue key place is within
        (subst (λ (l : Line). Contains l (key, place)) (sym e) (subst (Contains (head ∷ rest)) same (Contains-head head rest))) in
        let rises : IsAscending key_cmp (head ∷ rest) = subst (IsAscending key_cmp) e (is.ascending queue) in (
          it.0,
          record {
            waits = it.1;
            its = it.2;
            least = λ other v waits of.
                let among = subst (λ (q : Queue). Contains (line_at lined q) (v.key, other)) of
                (waits_line lined ws other v is (subst (IsWhole lined) (sym of) whole) waits) in
                subst (λ (k : Key). key_cmp k v.key ≢ Greater) (ap (λ (x : Key × ℕ). x.0) same ∙ sym it.3)
                (least_first key_cmp_total head rest (v.key, other) rises (subst (λ (l : Line). Contains l (v.key, other)) e among));
          },
          it.3,
        )

pub none_in : (lined : Lined) (ws : Waiters) (queue : Queue) → AreLinedUp lined ws → IsWhole lined queue → slice_get (line_at lined queue) 0 ≡ None
    → NoneWaitsIn queue ws
none_in lined ws queue is whole first place w waits of =
    let among = subst (λ (q : Queue). Contains (line_at lined q) (w.key, place)) of
    (waits_line lined ws place w is (subst (IsWhole lined) (sym of) whole) waits) in
    by_line (line_at lined queue) first among
  where
    by_line : (line : Line) → slice_get line 0 ≡ None → Contains line (w.key, place) → ⊥
    by_line [] at among = Contains-nil (w.key, place) among
    by_line (head ∷ rest) at among = cc
