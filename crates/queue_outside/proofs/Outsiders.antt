-- What each call leaves of who waits outside.
use Rattle.std.proofs.Common.{◌≡◌, ◌≢◌, ℕ, ◌+◌, ◌<◌, ◌≤◌, List, [], ◌∷◌, length, drop, filter, not, Bool, true, false, cond, ltb, IsTrue, inl, Some, None, rules, slice_get, Less, Equal, Greater, refl, sym, ap, subst, ◌∙◌, arith}
use Rattle.std.specs.List.{AllByRecursion}
use Rattle.std.specs.Ordering.{is_eq, ordering_reverse}
use Rattle.due_key.specs.declared.key.Key.{Key}
use Rattle.due_key.proofs.KeyOrder.{key_cmp_total, key_cmp_exact}
use Rattle.std.proofs.lemmas.Bool.Decides.{Decides-ltb}
use Rattle.std.proofs.lemmas.Option.{same_Some}
use Rattle.std.proofs.lemmas.Grind.{common_steps}
use Rattle.due_key.specs.Order.{key_cmp, ComesBefore}
use Rattle.pend_queue.specs.Pairs.{IsAscending, KeyIsAbsent, inserted, pairs_without}
use Rattle.pend_queue.proofs.Inserted.{IsAscending-inserted, AllByRecursion-inserted, length-inserted, inserted_between}
use Rattle.pend_queue.proofs.Without.{IsAscending-without, AllByRecursion-without}
use Rattle.base_lists.proofs.Members.{all_weaker}
use Rattle.queue_outside.specs.Rooms.{Outsiders, IsFull, IsOutsideOrder, AllComeAfter}

-- a key with a later ticket is no key of those who wait
pub new_ticket : (key : Key) (ticket : ℕ) (pairs : List (Key × ℕ)) → key.ticket ≡ ticket → AllByRecursion (λ p. p.0.ticket < ticket) pairs → KeyIsAbsent key_cmp key pairs
new_ticket key ticket pairs is low =
    all_weaker (λ p. p.0.ticket < ticket) (λ p. key_cmp p.0 key ≢ Equal)
    (λ p h tied. let same : p.0.ticket ≡ key.ticket = ap (λ (k : Key). k.ticket) (key_cmp_exact p.0 key tied) in absurd (omega (arith, same, is, h)))
    pairs low

pub room_came : (pairs : List (Key × ℕ)) (queue_room room ticket : ℕ) (key : Key) (outsider : ℕ) → IsOutsideOrder pairs queue_room room ticket → key.ticket ≡ ticket
    → length pairs < room → IsOutsideOrder (inserted key_cmp (key, outsider) pairs) queue_room room (ticket + 1)
room_came pairs queue_room room ticket key outsider it is fits = record {
  rooms = it.rooms;
  ascending = IsAscending-inserted key_cmp_total (key, outsider) pairs it.ascending;
  fits = let long = length-inserted key_cmp (key, outsider) pairs (new_ticket key ticket pairs is it.before) in omega arith;
  before = AllByRecursion-inserted key_cmp (λ p. p.0.ticket < ticket + 1) (key, outsider) pairs (omega arith)
      (all_weaker (λ p. p.0.ticket < ticket) (λ p. p.0.ticket < ticket + 1) (λ p h. omega arith) pairs it.before);
}

pub room_left : (pairs : List (Key × ℕ)) (queue_room room ticket : ℕ) (key : Key) → IsOutsideOrder pairs queue_room room ticket
    → IsOutsideOrder (pairs_without key_cmp key pairs) queue_room room ticket
room_left pairs queue_room room ticket key it = record {
  rooms = it.rooms;
  ascending = IsAscending-without key_cmp key pairs it.ascending;
  fits = let short : length (pairs_without key_cmp key pairs) ≤ length pairs = fewer (λ p. not (is_eq (key_cmp p.0 key))) pairs in let low = it.fits in omega arith;
  before = AllByRecursion-without key_cmp (λ p. p.0.ticket < ticket) key pairs it.before;
}
  where
    fewer : (test : Key × ℕ → Bool) (l : List (Key × ℕ)) → length (filter test l) ≤ length l
    fewer test [] = omega arith
    fewer test (p ∷ l) = by_test (test p) (fewer test l)
      where
        by_test : (b : Bool) → length (filter test l) ≤ length l → length (cond b (p ∷ filter test l) (filter test l)) ≤ length (p ∷ l)
        by_test true low = omega arith
        by_test false low = omega arith

comes_before : (a b : Key) → key_cmp a b ≡ Less → ComesBefore a b
comes_before a b less = search (rules, common_steps)

pub all_behind : (pairs : List (Key × ℕ)) (first : Key × ℕ) → IsAscending key_cmp pairs → Some first ≡ slice_get pairs 0 → AllComeAfter first.0 (drop 1 pairs)
all_behind [] first rising at = let fails : Some first ≡ None = at in cc
all_behind (p ∷ pairs) first rising at =
    let same : first ≡ p = same_Some first p at in
    subst (λ (it : Key × ℕ). AllComeAfter it.0 pairs) (sym same)
    (all_weaker (λ q. key_cmp p.0 q.0 ≡ Less) (λ q. ComesBefore p.0 q.0) (λ q. comes_before p.0 q.0) pairs rising.0)

-- the first, put back, stands where it was
pub record IsPutBack (pairs : List (Key × ℕ)) (first : Key × ℕ) : Type 0 where
  pub same : inserted key_cmp first (drop 1 pairs) ≡ pairs
  pub absent : KeyIsAbsent key_cmp first.0 (drop 1 pairs)
  pub fewer : length (drop 1 pairs) < length pairs

pub first_back : (pairs : List (Key × ℕ)) (first : Key × ℕ) → IsAscending key_cmp pairs → Some first ≡ slice_get pairs 0 → IsPutBack pairs first
first_back [] first rising at = let fails : Some first ≡ None = at in cc
first_back (p ∷ pairs) first rising at =
    let same : first ≡ p = same_Some first p at in
    let above : AllByRecursion (λ q. key_cmp q.0 p.0 ≡ Greater) pairs =
    all_weaker (λ q. key_cmp p.0 q.0 ≡ Less) (λ q. key_cmp q.0 p.0 ≡ Greater) (λ q less. key_cmp_total.antisymm q.0 p.0 ∙ ap ordering_reverse less) pairs rising.0 in
    let back : IsPutBack (p ∷ pairs) p =
    record {
      same = inserted_between key_cmp p [] pairs tt above;
      absent = all_weaker (λ q. key_cmp q.0 p.0 ≡ Greater) (λ q. key_cmp q.0 p.0 ≢ Equal) (λ q greater tied. let no : Greater ≡ Equal = sym greater ∙ tied in cc) pairs above;
      fewer = omega arith;
    } in
    subst (λ (it : Key × ℕ). IsPutBack (p ∷ pairs) it) (sym same) back

pub not_full : (it : Outsiders) (b : Bool) → (IsTrue b → IsFull it) × (IsFull it → IsTrue b) → b ≡ false → length it.pairs < it.room
not_full it b told fails = by_test (ltb (length it.pairs) it.room) refl
  where
    by_test : (t : Bool) → ltb (length it.pairs) it.room ≡ t → length it.pairs < it.room
    by_test true e = (Decides-ltb (length it.pairs) it.room).0 e
    by_test false e =
        let high : it.room ≤ length it.pairs = above (λ low. let t : ltb (length it.pairs) it.room ≡ true = (Decides-ltb (length it.pairs) it.room).1 low in
        let no : false ≡ true = sym e ∙ t in cc) in
        let full : b ≡ true = told.1 (inl high) in
        let no : false ≡ true = sym fails ∙ full in
        cc
      where
        above : ¬ (length it.pairs < it.room) → it.room ≤ length it.pairs
        above apart = omega (arith, apart)
