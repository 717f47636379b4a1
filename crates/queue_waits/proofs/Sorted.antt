-- Pairs that were sorted are the line of the queue that they were taken from.
use Rattle.std.proofs.Common.{◌≡◌, ◌≢◌, ℕ, suc, ◌+◌, ◌<◌, ◌≤◌, false, cond, [], ◌∷◌, Contains, length}
use Rattle.std.proofs.Common.{refl, ap, sym, ◌∙◌, subst, arith, Ordering, Less, Equal, Greater, IsPermutation}
use Rattle.std.specs.List.{sum_by}
use Rattle.std.specs.List.Sorted.{IsSortedByKey}
use Rattle.std.specs.Ordering.{is_eq, is_lt}
use Rattle.std.proofs.Math.ListN.{get_or}
use Rattle.std.proofs.lemmas.Cmp.{tied_itself}
use Rattle.std.proofs.lemmas.List.Sorted.{sum_by-IsPermutation}
use Rattle.std.proofs.lemmas.List.Sums.{sum_by-cons}
use Rattle.std.proofs.lemmas.Option.{same_Some}
use Rattle.due_key.specs.declared.key.Key.{Key}
use Rattle.due_key.specs.Order.{key_cmp}
use Rattle.due_key.proofs.KeyOrder.{key_cmp_total, key_cmp_exact}
use Rattle.log_entries.specs.declared.queue.Queue.TheVariants.{Backend, Server}
use Rattle.base_lists.proofs.Members.{all_weaker}
use Rattle.base_lists.proofs.Orders.{less_from_greater}
use Rattle.base_lists.proofs.Sums.{sum_ones}
use Rattle.pend_queue.specs.Pairs.{IsAscending, KeyIsAbsent}
use Rattle.pend_queue.proofs.Ascending.{apart_from_members, same_from_members}
use Rattle.pend_queue.proofs.Without.{absent_after}
use Rattle.queue_waits.specs.declared.falls.Fall.{Fall}
use Rattle.queue_waits.specs.declared.waiters.Waiter.{Waiter}
use Rattle.queue_waits.specs.Falls.{IsFalling}
use Rattle.queue_waits.specs.InQueues.{pairs_in, AreLinedUp}
use Rattle.queue_waits.specs.Lines.{Line, Lined, line_at}
use Rattle.queue_waits.specs.Waitlists.{Waiters, WaitsAt}
use Rattle.queue_waits.proofs.Held.{members, pairs_weight, weighs}
use Rattle.queue_waits.proofs.Lineup.{line_waits, moved_waits}
use Rattle.queue_waits.proofs.Weights.{weight_of, weight_both}

-- how many pairs have a key
hit : Key → Key × ℕ → ℕ
hit key pair = cond {A = ℕ} (is_eq (key_cmp pair.0 key)) 1 0

hit_by : (key : Key) (pair : Key × ℕ) (o : Ordering) → key_cmp pair.0 key ≡ o → hit key pair ≡ cond {A = ℕ} (is_eq o) 1 0
unfolding hit
hit_by key pair o is = ap (λ (x : Ordering). cond {A = ℕ} (is_eq x) 1 0) is

absent_light : (key : Key) (line : Line) → KeyIsAbsent key_cmp key line → sum_by (hit key) line ≡ 0
absent_light key [] absent = refl
absent_light key (p ∷ line) absent = by_order (absent_light key line absent.1) (key_cmp p.0 key) refl
  where
    by_order : sum_by (hit key) line ≡ 0 → (o : Ordering) → key_cmp p.0 key ≡ o → sum_by (hit key) (p ∷ line) ≡ 0
    by_order rest Equal e = absurd (absent.0 e)
    by_order rest Less e = omega (arith, sum_by-cons (hit key) p line, hit_by key p Less e, rest)
    by_order rest Greater e = omega (arith, sum_by-cons (hit key) p line, hit_by key p Greater e, rest)

once : (line : Line) → IsAscending key_cmp line → (key : Key) → sum_by (hit key) line ≤ 1
once [] up key = let none : sum_by (hit key) [] ≡ 0 = refl in omega arith
once (p ∷ line) up key = by_order (once line up.1 key) (key_cmp p.0 key) refl
  where
    by_order : sum_by (hit key) line ≤ 1 → (o : Ordering) → key_cmp p.0 key ≡ o → sum_by (hit key) (p ∷ line) ≤ 1
    by_order rest Equal e =
        omega (arith, sum_by-cons (hit key) p line, hit_by key p Equal e, absent_light key line (absent_after key_cmp_total key p line up e))
    by_order rest Less e = omega (arith, sum_by-cons (hit key) p line, hit_by key p Less e, rest)
    by_order rest Greater e = omega (arith, sum_by-cons (hit key) p line, hit_by key p Greater e, rest)

-- pairs in order, of which no two have one key, ascend
rises : (line : Line) → IsSortedByKey (λ pair. pair.0) key_cmp line → ((key : Key) → sum_by (hit key) line ≤ 1) → IsAscending key_cmp line
rises [] sorted few = tt
rises (p ∷ []) sorted few = (tt, tt)
rises (p ∷ q ∷ line) sorted few =
    by_order (rises (q ∷ line) shifted (λ key. omega (arith, few key, sum_by-cons (hit key) p (q ∷ line)))) (key_cmp q.0 p.0) refl
  where
    shifted : IsSortedByKey (λ pair. pair.0) key_cmp (q ∷ line)
    shifted k d low high =
        let on : suc k + 1 ≡ suc (k + 1) = omega arith in
        subst (λ n. is_lt (key_cmp (get_or (p ∷ q ∷ line) n d).0 (get_or (q ∷ line) k d).0) ≡ false) on (sorted (suc k) d (omega arith) (omega arith))

    by_order : IsAscending key_cmp (q ∷ line) → (o : Ordering) → key_cmp q.0 p.0 ≡ o → IsAscending key_cmp (p ∷ q ∷ line)
    by_order later Less e = let no : is_lt (key_cmp q.0 p.0) ≡ false = sorted 0 p (omega arith) (omega arith) in
        let yes = ap is_lt e in cc
    by_order later Equal e =
        absurd (omega (
          arith,
          few p.0,
          sum_by-cons (hit p.0) p (q ∷ line),
          sum_by-cons (hit p.0) q line,
          hit_by p.0 p Equal (tied_itself key_cmp_total p.0),
          hit_by p.0 q Equal e,
        ))
    by_order later Greater e =
        let below : key_cmp p.0 q.0 ≡ Less = less_from_greater key_cmp_total q.0 p.0 e in (
          (below, all_weaker (λ r. key_cmp q.0 r.0 ≡ Less) (λ r. key_cmp p.0 r.0 ≡ Less) (λ r less. key_cmp_total.trans p.0 q.0 r.0 below less) line later.0),
          later,
        )

-- pairs in order that weigh the same as an ascending line are that line
same_line : (xs ys : Line) → IsSortedByKey (λ pair. pair.0) key_cmp xs → IsAscending key_cmp ys → ((weight : Key × ℕ → ℕ) → sum_by weight xs ≡ sum_by weight ys)
    → xs ≡ ys
same_line xs ys sorted up alike =
    same_from_members key_cmp_total xs ys (rises xs sorted (λ key. omega (arith, alike (hit key), once ys up key))) up (members xs ys alike)
    (members ys xs (λ weight. sym (alike weight)))

-- a server begins to fall
pub begun : (lined : Lined) (ws : Waiters) (fall : Fall) → AreLinedUp lined ws → fall.server < length lined.own → line_at lined (Server fall.server) ≢ []
    → fall.told ≡ 0 → IsPermutation (pairs_in (Server fall.server) 0 ws) fall.sorted.items
    → IsSortedByKey (λ pair. pair.0) key_cmp fall.sorted.items → IsFalling lined fall
begun lined ws fall is within somebody none pairs sorted = record {
  within = within;
  known = known;
  left = left fall.sorted.items refl;
  ascending = subst (IsAscending key_cmp) (sym known) (is.ascending (Server fall.server));
  moved = is.moved;
  apart = apart_from_members key_cmp lined.moved fall.sorted.items differ;
  room = room;
}
  where
    pairs_alike : (weight : Key × ℕ → ℕ) → sum_by weight fall.sorted.items ≡ weight_of weight (Server fall.server) 0 ws
    pairs_alike weight = sum_by-IsPermutation weight (pairs_in (Server fall.server) 0 ws) fall.sorted.items pairs ∙ pairs_weight weight (Server fall.server) 0 ws

    known : fall.sorted.items ≡ line_at lined (Server fall.server)
    known = same_line fall.sorted.items (line_at lined (Server fall.server)) sorted (is.ascending (Server fall.server))
        (λ weight. pairs_alike weight ∙ sym (weighs lined ws is (Server fall.server) within weight))

    left : (items : Line) → fall.sorted.items ≡ items → fall.told < length fall.sorted.items
    left [] e = absurd (somebody (sym known ∙ e))
    left (p ∷ items) e = let long : length fall.sorted.items ≡ length (p ∷ items) = ap (λ (l : Line). length l) e in omega arith

    differ : (p q : Key × ℕ) → Contains lined.moved p → Contains fall.sorted.items q → key_cmp p.0 q.0 ≢ Equal
    differ p q first second tied =
        let a = moved_waits lined ws p.0 p.1 is first in
        let b = line_waits lined ws (Server fall.server) q.0 q.1 is within (subst (λ (l : Line). Contains l q) known second) in
        let place : p.1 ≡ q.1 = is.own_keys p.1 q.1 a.0 b.0 a.1 b.1 (a.3 ∙ key_cmp_exact p.0 q.0 tied ∙ sym b.3) in
        let there : WaitsAt ws q.1 a.0 = subst (λ n. WaitsAt ws n a.0) place a.1 in
        let queues : Backend ≡ Server fall.server = sym a.2 ∙ ap (λ (w : Waiter). w.queue) (one_waiter q.1 a.0 b.0 there b.1) ∙ b.2 in cc
      where
        one_waiter : (n : ℕ) (w v : Waiter) → WaitsAt ws n w → WaitsAt ws n v → w ≡ v
        one_waiter n w v x y = same_Some _ _ (same_Some _ _ (sym x ∙ y))

    room : length lined.moved + length fall.sorted.items ≤ lined.room
    room =
        let moved : sum_by (λ pair. 1) lined.backend + sum_by (λ pair. 1) lined.moved ≡ weight_of (λ pair. 1) Backend 0 ws = weighs lined ws is Backend tt (λ pair. 1) in
        let own = pairs_alike (λ pair. 1) in
        let both = weight_both fall.server 0 ws in
        let one = sum_ones lined.moved in
        let two = sum_ones fall.sorted.items in
        let places = is.room in
        omega arith
