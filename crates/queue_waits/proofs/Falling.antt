-- The queues while a server falls.
use Rattle.std.proofs.Common.{◌≡◌, ◌≢◌, ◌⊎◌, inl, inr, ℕ, ◌+◌, ◌<◌, ◌≤◌, List, [], ◌∷◌, ◌++◌, Some, None, drop, take, slice_get, length, IsPermutation}
use Rattle.std.proofs.Common.{refl, ap, sym, ◌∙◌, subst, arith, Less, Contains}
use Rattle.std.proofs.Math.ListN.{set, get_or}
use Rattle.std.proofs.lemmas.List.{append_assoc, drop_all, take_all, drop-drop, take-append-drop, length-take-le, take_more, drop_more, get_or-set_same, get_or-set_other, length-set, set-set, set-get_or}
use Rattle.std.proofs.lemmas.List.Sorted.{IsPermutation-trans, IsPermutation-sym, IsPermutation-cons, IsPermutation-to_front}
use Rattle.std.proofs.lemmas.Option.{same_Some}
use Rattle.due_key.specs.declared.key.Key.{Key}
use Rattle.due_key.specs.Order.{key_cmp}
use Rattle.due_key.proofs.KeyOrder.{key_cmp_total}
use Rattle.log_entries.specs.declared.queue.Queue.TheVariants.{Server}
use Rattle.base_lists.proofs.Members.{each_at_member, all_take, Contains-middle, Contains-head}
use Rattle.pend_queue.specs.Pairs.{IsAscending, KeyIsAbsent, HaveNoCommonKey, inserted, merged}
use Rattle.pend_queue.proofs.Ascending.{ascending_parts, absent_from_members, absent-append, absent-IsPermutation, same_from_permutation}
use Rattle.pend_queue.proofs.Inserted.{IsAscending-inserted, IsPermutation-inserted}
use Rattle.pend_queue.proofs.Merged.{IsAscending-merged, IsPermutation-merged, length-merged}
use Rattle.queue_waits.specs.declared.falls.Fall.{Fall}
use Rattle.queue_waits.specs.Falls.{IsFalling}
use Rattle.queue_waits.specs.Lines.{Line, Lined, line_at, with_line, with_moved, fallen, taken_over}

-- where none was moved, the queues are as they are
pub fallen_none : (lined : Lined) (server : ℕ) → fallen lined server 0 ≡ lined
fallen_none lined server =
    ap (λ (l : List Line). record { own = l; backend = lined.backend; moved = lined.moved; room = lined.room }) (set-get_or lined.own server [])

-- where all were, the queue is merged as a whole
pub fallen_all : (lined : Lined) (server n : ℕ) → length (line_at lined (Server server)) ≤ n → fallen lined server n ≡ taken_over lined server
fallen_all lined server n all =
    ap (λ (l : Line). with_moved (with_line lined (Server server) l) (merged key_cmp lined.moved (take n (line_at lined (Server server)))))
    (drop_all n (line_at lined (Server server)) all)
    ∙ ap (λ (l : Line). with_moved (with_line lined (Server server) []) (merged key_cmp lined.moved l)) (take_all n (line_at lined (Server server)) all)

pub fallen_servers : (lined : Lined) (server n : ℕ) → length (fallen lined server n).own ≡ length lined.own
fallen_servers lined server n = length-set lined.own server (drop n (line_at lined (Server server)))

-- another server's queue, or one of which none was moved, is as it is
pub fallen_elsewhere : (lined : Lined) (server n other : ℕ) → (n ≡ 0) ⊎ (server ≢ other)
    → line_at (fallen lined server n) (Server other) ≡ line_at lined (Server other)
fallen_elsewhere lined server n other (inl none) =
    ap (λ k. line_at (fallen lined server k) (Server other)) none ∙ ap (λ (l : Lined). line_at l (Server other)) (fallen_none lined server)
fallen_elsewhere lined server n other (inr differs) =
    get_or-set_other lined.own server other (drop n (line_at lined (Server server))) [] (λ e. differs (sym e))

-- an ascending line from a pair on, and what comes before it
module _ (line : Line) (n : ℕ) (p : Key × ℕ) (up : IsAscending key_cmp line) (there : n < length line) (is : get_or line n p ≡ p) where
  next_taken : take (n + 1) line ≡ take n line ++ p ∷ []
  next_taken = take_more line n p there ∙ ap (λ x. take n line ++ x ∷ []) is

  pub next_first : drop n line ≡ p ∷ drop (n + 1) line
  next_first = drop_more line n p there ∙ ap (λ x. x ∷ drop (n + 1) line) is

  parts : take n line ++ p ∷ drop (n + 1) line ≡ line
  parts = ap (λ l. take n line ++ l) (sym next_first) ∙ take-append-drop n line

  rising : IsAscending key_cmp (take n line ++ p ∷ drop (n + 1) line)
  rising = subst (IsAscending key_cmp) (sym parts) up

  -- with pairs that have other keys than the line
  module _ (moved : Line) (rises : IsAscending key_cmp moved) (apart : HaveNoCommonKey key_cmp moved line) where
    front_merged : IsPermutation (moved ++ take n line) (merged key_cmp moved (take n line))
    front_merged = IsPermutation-merged key_cmp_total moved (take n line) (ascending_parts key_cmp _ _ rising).first
        (all_take (λ q. KeyIsAbsent key_cmp q.0 moved) n line apart)

    pub next_absent : KeyIsAbsent key_cmp p.0 (merged key_cmp moved (take n line))
    next_absent = absent-IsPermutation key_cmp p.0 _ _ front_merged (absent-append key_cmp p.0 moved (take n line)
        (each_at_member (λ q. KeyIsAbsent key_cmp q.0 moved) line p apart (subst (λ l. Contains l p) parts (Contains-middle (take n line) p (drop (n + 1) line))))
        (absent_from_members key_cmp p.0 (take n line) (λ q among tied.
        let below : key_cmp q.0 p.0 ≡ Less = (ascending_parts key_cmp _ _ rising).across q p among (Contains-head p (drop (n + 1) line)) in cc)))

    pub next_merged : merged key_cmp moved (take (n + 1) line) ≡ inserted key_cmp p (merged key_cmp moved (take n line))
    next_merged =
        let more : IsAscending key_cmp (take (n + 1) line) =
        (ascending_parts key_cmp (take (n + 1) line) (drop (n + 1) line) (subst (IsAscending key_cmp) (sym (take-append-drop (n + 1) line)) up)).first in
        let all = IsPermutation-merged key_cmp_total moved (take (n + 1) line) more (all_take (λ q. KeyIsAbsent key_cmp q.0 moved) (n + 1) line apart) in
        let last : moved ++ take (n + 1) line ≡ (moved ++ take n line) ++ p ∷ [] =
        ap (λ l. moved ++ l) next_taken ∙ sym (append_assoc moved (take n line) (p ∷ [])) in
        let front = subst (λ l. IsPermutation l (p ∷ (moved ++ take n line))) (sym last) (IsPermutation-to_front (moved ++ take n line) p) in
        same_from_permutation key_cmp_total _ _ (IsAscending-merged key_cmp_total moved (take (n + 1) line) rises)
        (IsAscending-inserted key_cmp_total p _ (IsAscending-merged key_cmp_total moved (take n line) rises))
        (IsPermutation-trans _ _ _ (IsPermutation-sym _ _ all) (IsPermutation-trans _ _ _ front
        (IsPermutation-trans _ _ _ (IsPermutation-cons p _ _ front_merged) (IsPermutation-inserted key_cmp p _ next_absent))))

    pub next_room : (room : ℕ) → length moved + length line ≤ room → length (merged key_cmp moved (take n line)) < room
    next_room room fits =
        let long = length-merged key_cmp_total moved (take n line) (ascending_parts key_cmp _ _ rising).first
        (all_take (λ q. KeyIsAbsent key_cmp q.0 moved) n line apart) in
        let short : length (take n line) ≡ n = length-take-le n line (omega arith) in
        omega arith

-- the next request of a server that falls is moved
pub fallen_next : (lined : Lined) (server n : ℕ) (p : Key × ℕ) → server < length lined.own → n < length (line_at lined (Server server))
    → get_or (line_at lined (Server server)) n p ≡ p → IsAscending key_cmp (line_at lined (Server server)) → IsAscending key_cmp lined.moved
    → HaveNoCommonKey key_cmp lined.moved (line_at lined (Server server))
    → (let now = fallen lined server n in fallen lined server (n + 1) ≡ with_moved (with_line now (Server server) (drop 1 (line_at now (Server server)))) (inserted key_cmp p now.moved))
fallen_next lined server n p within there is up rises apart =
    let line = line_at lined (Server server) in
    let left : line_at (fallen lined server n) (Server server) ≡ drop n line = get_or-set_same lined.own server (drop n line) [] within in
    let fewer : drop (n + 1) line ≡ drop 1 (line_at (fallen lined server n) (Server server)) = sym (drop-drop 1 n line) ∙ ap (drop 1) (sym left) in
    ap (λ (m : Line). with_moved (with_line lined (Server server) (drop (n + 1) line)) m) (next_merged line n p up there is lined.moved rises apart)
    ∙ ap (λ (l : Line). record { own = set lined.own server l; backend = lined.backend; moved = inserted key_cmp p (merged key_cmp lined.moved (take n line)); room = lined.room }) fewer
    ∙ ap (λ (o : List Line). record { own = o; backend = lined.backend; moved = inserted key_cmp p (merged key_cmp lined.moved (take n line)); room = lined.room })
    (sym (set-set lined.own server (drop n line) (drop 1 (line_at (fallen lined server n) (Server server)))))

-- what a falling server's queue is: known, and apart from what was moved before
module _ (lined : Lined) (fall : Fall) (is : IsFalling lined fall) (n : ℕ) (p : Key × ℕ) (there : n < length fall.sorted.items)
    (stands : p ≡ get_or fall.sorted.items n p) where
  known_there : n < length (line_at lined (Server fall.server))
  known_there = subst (λ (l : Line). n < length l) is.known there

  known_stands : get_or (line_at lined (Server fall.server)) n p ≡ p
  known_stands = sym (stands ∙ ap (λ (l : Line). get_or l n p) is.known)

  known_up : IsAscending key_cmp (line_at lined (Server fall.server))
  known_up = subst (IsAscending key_cmp) is.known is.ascending

  known_apart : HaveNoCommonKey key_cmp lined.moved (line_at lined (Server fall.server))
  known_apart = subst (HaveNoCommonKey key_cmp lined.moved) is.known is.apart

  -- the next one is moved
  pub falls_next : (let now = fallen lined fall.server n in fallen lined fall.server (n + 1)
      ≡ with_moved (with_line now (Server fall.server) (drop 1 (line_at now (Server fall.server)))) (inserted key_cmp p now.moved))
  falls_next = fallen_next lined fall.server n p is.within known_there known_stands known_up is.moved known_apart

  -- it stands first, and there is room and a place by key for it among those that were moved
  pub falls_first : slice_get (line_at (fallen lined fall.server n) (Server fall.server)) 0 ≡ Some p
  falls_first =
      ap (λ (l : Line). slice_get l 0) (get_or-set_same lined.own fall.server (drop n (line_at lined (Server fall.server))) [] is.within
      ∙ next_first (line_at lined (Server fall.server)) n p known_up known_there known_stands)

  pub falls_absent : KeyIsAbsent key_cmp p.0 (fallen lined fall.server n).moved
  falls_absent = next_absent (line_at lined (Server fall.server)) n p known_up known_there known_stands lined.moved is.moved known_apart

  pub falls_room : length (fallen lined fall.server n).moved < lined.room
  falls_room = next_room (line_at lined (Server fall.server)) n p known_up known_there known_stands lined.moved is.moved known_apart lined.room
      (subst (λ (l : Line). length lined.moved + length l ≤ lined.room) is.known is.room)

-- the last one takes the queue along
pub falls_over : (lined next : Lined) (fall : Fall) (n : ℕ) → IsFalling lined fall → n ≡ length fall.sorted.items → next ≡ taken_over lined fall.server
    → fallen next fall.server 0 ≡ fallen lined fall.server n
falls_over lined next fall n is all goes =
    fallen_none next fall.server ∙ goes
    ∙ sym (fallen_all lined fall.server n (let e = ap (λ (l : Line). length l) is.known in omega arith))

-- one of those that were moved leaves the queue by itself
pub record Settles (lined popped : Lined) (fall : Fall) (n : ℕ) (p : Key × ℕ) : Type 0 where
  pub room : length popped.moved < popped.room
  pub absent : KeyIsAbsent key_cmp p.0 popped.moved
  pub done : fallen lined fall.server (n + 1) ≡ with_moved popped (inserted key_cmp p popped.moved)

pub settles : (lined now popped : Lined) (fall : Fall) (n : ℕ) (p : Key × ℕ) → IsFalling lined fall → n < fall.told → now ≡ fallen lined fall.server n
    → Some p ≡ slice_get (line_at now (Server fall.server)) 0
    → popped ≡ with_line now (Server fall.server) (drop 1 (line_at now (Server fall.server))) → Settles lined popped fall n p
settles lined now popped fall n p is before so_far first pops =
    let there : n < length fall.sorted.items = let left = is.left in omega arith in
    let here : Some (get_or fall.sorted.items n p) ≡ Some p =
    sym (ap (λ (l : Line). slice_get l 0) (drop_more fall.sorted.items n p there))
    ∙ ap (λ (l : Line). slice_get (drop n l) 0) is.known
    ∙ sym (ap (λ (l : Line). slice_get l 0) (get_or-set_same lined.own fall.server (drop n (line_at lined (Server fall.server))) [] is.within))
    ∙ sym (first ∙ ap (λ (l : Lined). slice_get (line_at l (Server fall.server)) 0) so_far) in
    let stands : p ≡ get_or fall.sorted.items n p = sym (same_Some _ _ here) in
    let left : popped ≡ with_line (fallen lined fall.server n) (Server fall.server) (drop 1 (line_at (fallen lined fall.server n) (Server fall.server))) =
    pops ∙ ap (λ (l : Lined). with_line l (Server fall.server) (drop 1 (line_at l (Server fall.server)))) so_far in
    record {
      room = subst (λ (l : Lined). length l.moved < l.room) (sym left) (falls_room lined fall is n p there stands);
      absent = subst (λ (l : Lined). KeyIsAbsent key_cmp p.0 l.moved) (sym left) (falls_absent lined fall is n p there stands);
      done = falls_next lined fall is n p there stands ∙ ap (λ (l : Lined). with_moved l (inserted key_cmp p l.moved)) (sym left);
    }

-- and there is one
pub none_settles : (lined now : Lined) (fall : Fall) (n : ℕ) → IsFalling lined fall → n < fall.told → now ≡ fallen lined fall.server n
    → None ≡ slice_get (line_at now (Server fall.server)) 0 → ⊥
none_settles lined now fall n is before so_far none = by_items fall.sorted.items refl
  where
    by_items : (items : Line) → fall.sorted.items ≡ items → ⊥
    by_items [] e = let left = is.left in let no : length fall.sorted.items ≡ 0 = ap (λ (l : Line). length l) e in absurd (omega arith)
    by_items (p ∷ rest) e =
        let there : n < length fall.sorted.items = let left = is.left in omega arith in
        let here : None ≡ Some (get_or fall.sorted.items n p) =
        none ∙ ap (λ (l : Lined). slice_get (line_at l (Server fall.server)) 0) so_far
        ∙ ap (λ (l : Line). slice_get l 0) (get_or-set_same lined.own fall.server (drop n (line_at lined (Server fall.server))) [] is.within)
        ∙ sym (ap (λ (l : Line). slice_get (drop n l) 0) is.known)
        ∙ ap (λ (l : Line). slice_get l 0) (drop_more fall.sorted.items n p there) in cc
