-- What queues hold, by what it weighs: lists that weigh the same, whatever each pair weighs, hold the same pairs.
use Rattle.std.proofs.Common.{◌≡◌, ℕ, ◌+◌, ◌<◌, suc, ◌==◌, ◌&&◌, ◌⊎◌, Bool, true, false, cond, [], ◌∷◌, ◌++◌, Option, None, Some, length}
use Rattle.std.proofs.Common.{Contains, refl, ap, sym, ◌∙◌, subst, arith, inl, inr, Ordering, Less, Equal, Greater, IsPermutation}
use Rattle.std.specs.List.{sum_by}
use Rattle.std.specs.Ordering.{is_eq}
use Rattle.std.proofs.lemmas.Bool.Decides.{Decides-eqb}
use Rattle.std.proofs.lemmas.Cmp.{tied_itself}
use Rattle.std.proofs.lemmas.List.Sorted.{IsPermutation-refl, IsPermutation-trans, IsPermutation-cons, IsPermutation-sym, IsPermutation-middle}
use Rattle.std.proofs.lemmas.List.Sorted.{sum_by-IsPermutation}
use Rattle.std.proofs.lemmas.List.Sums.{sum_by-cons, sum_by-append}
use Rattle.due_key.specs.declared.key.Key.{Key}
use Rattle.due_key.specs.Order.{key_cmp}
use Rattle.due_key.proofs.KeyOrder.{key_cmp_total, key_cmp_exact}
use Rattle.log_entries.specs.declared.queue.Queue.{Queue}
use Rattle.log_entries.specs.declared.queue.Queue.TheVariants.{Backend, Server}
use Rattle.log_entries.specs.Rows.{same_queue}
use Rattle.base_lists.proofs.Members.{Contains-nil, Contains-head, Contains-cases}
use Rattle.base_lists.proofs.Sums.{sum_has, sum_found, sum_ones}
use Rattle.log_entries.specs.Queues.{IsQueueOf}
use Rattle.queue_waits.specs.declared.waiters.Waiter.{Waiter}
use Rattle.queue_waits.specs.InQueues.{pair_in, pairs_in, held_in, AreLinedUp}
use Rattle.queue_waits.specs.Lines.{Line, Lined, line_at}
use Rattle.queue_waits.specs.Waitlists.{Waiters}
use Rattle.queue_waits.proofs.Weights.{weight_at, weight_of}

-- a weight for one pair alone
pub one_pair : Key → ℕ → Key × ℕ → ℕ
one_pair key place pair = cond {A = ℕ} (is_eq (key_cmp pair.0 key) && (pair.1 == place)) 1 0

pub its_weight : (key : Key) (place : ℕ) → one_pair key place (key, place) ≡ 1
unfolding one_pair
its_weight key place =
    ap (λ (o : Ordering). cond {A = ℕ} (is_eq o && (place == place)) 1 0) (tied_itself key_cmp_total key)
    ∙ ap (λ (b : Bool). cond {A = ℕ} b 1 0) ((Decides-eqb place place).1 refl)

-- no other pair has a weight
pub that_pair : (key : Key) (place : ℕ) (pair : Key × ℕ) → 0 < one_pair key place pair → (pair.0 ≡ key) × (pair.1 ≡ place)
unfolding one_pair
that_pair key place pair heavy = by_order (key_cmp pair.0 key) refl heavy
  where
    by_place : (b : Bool) → (pair.1 == place) ≡ b → 0 < cond {A = ℕ} b 1 0 → pair.1 ≡ place
    by_place true e h = (Decides-eqb pair.1 place).0 e
    by_place false e h = absurd (omega (arith, h))

    by_order : (o : Ordering) → key_cmp pair.0 key ≡ o → 0 < cond {A = ℕ} (is_eq o && (pair.1 == place)) 1 0 → (pair.0 ≡ key) × (pair.1 ≡ place)
    by_order Equal e h = (key_cmp_exact pair.0 key e, by_place (pair.1 == place) refl h)
    by_order Less e h = absurd (omega (arith, h))
    by_order Greater e h = absurd (omega (arith, h))

-- lists that weigh the same have the same pairs
pub members : (xs ys : Line) → ((weight : Key × ℕ → ℕ) → sum_by weight xs ≡ sum_by weight ys) → (p : Key × ℕ) → Contains xs p → Contains ys p
members xs ys alike p among =
    let f = one_pair p.0 p.1 in
    let one = its_weight p.0 p.1 in
    let some = sum_has f xs p among in
    let same = alike f in
    let it = sum_found f ys (omega arith) in
    let is = that_pair p.0 p.1 it.0 it.2 in
    let pair : it.0 ≡ p = ap (λ (k : Key). (k, it.0.1)) is.0 ∙ ap (λ n. (p.0, n)) is.1 in
    subst (Contains ys) pair it.1

-- a list that has a pair has it between a front and a back
record IsAround (ys : Line) (p : Key × ℕ) : Type 0 where
  front : Line
  back : Line
  parts : ys ≡ front ++ p ∷ back

around : (ys : Line) (p : Key × ℕ) → Contains ys p → IsAround ys p
around [] p among = absurd (Contains-nil p among)
around (y ∷ ys) p among = by_case (around ys p) (Contains-cases y ys p among)
  where
    by_case : (Contains ys p → IsAround ys p) → (y ≡ p) ⊎ Contains ys p → IsAround (y ∷ ys) p
    by_case later (inl same) = record { front = []; back = ys; parts = ap (λ (q : Key × ℕ). q ∷ ys) same }
    by_case later (inr among) = let it = later among in
        record { front = y ∷ it.front; back = it.back; parts = ap (λ (l : Line). y ∷ l) it.parts }

-- such lists are one but for the order
none_held : (ys : Line) → 0 ≡ length ys → IsPermutation [] ys
none_held [] e = IsPermutation-refl []
none_held (y ∷ ys) e = absurd (omega arith)

alike_held : (xs ys : Line) → ((weight : Key × ℕ → ℕ) → sum_by weight xs ≡ sum_by weight ys) → IsPermutation xs ys
alike_held [] ys alike = none_held ys (alike (λ pair. 1) ∙ sum_ones ys)
alike_held (x ∷ xs) ys alike =
    let it = around ys x (members (x ∷ xs) ys alike x (Contains-head x xs)) in
    let rest = alike_held xs (it.front ++ it.back)
    (λ weight. omega (
      arith,
      alike weight,
      ap (sum_by weight) it.parts,
      sum_by-cons weight x xs,
      sum_by-append weight it.front (x ∷ it.back),
      sum_by-cons weight x it.back,
      sum_by-append weight it.front it.back,
    ))
    in
    subst (IsPermutation (x ∷ xs)) (sym it.parts)
    (IsPermutation-trans (x ∷ xs) (x ∷ (it.front ++ it.back)) (it.front ++ x ∷ it.back) (IsPermutation-cons x xs (it.front ++ it.back) rest)
    (IsPermutation-sym (it.front ++ x ∷ it.back) (x ∷ (it.front ++ it.back)) (IsPermutation-middle it.front x it.back)))

-- what a queue weighs, the backend's with what was moved into it
abbrev pub line_weight : (Key × ℕ → ℕ) → Lined → Queue → ℕ
line_weight weight lined Backend = sum_by weight lined.backend + sum_by weight lined.moved
line_weight weight lined (Server server) = sum_by weight (line_at lined (Server server))

held_weight : (weight : Key × ℕ → ℕ) (lined : Lined) (queue : Queue) → line_weight weight lined queue ≡ sum_by weight (held_in lined queue)
held_weight weight lined Backend = sym (sum_by-append weight lined.backend lined.moved)
held_weight weight lined (Server s) = refl

pair_weight : (weight : Key × ℕ → ℕ) (queue : Queue) (at : ℕ) (cell : Option Waiter) → sum_by weight (pair_in queue at cell) ≡ weight_at weight queue at cell
pair_weight weight queue at None = refl
pair_weight weight queue at (Some w) = by_test (same_queue queue w.queue)
  where
    by_test : (b : Bool) → sum_by weight (cond b ((w.key, at) ∷ []) []) ≡ cond b (weight (w.key, at)) 0
    by_test true = let one = sum_by-cons weight (w.key, at) [] in let none : sum_by weight [] ≡ 0 = refl in omega arith
    by_test false = refl

pub pairs_weight : (weight : Key × ℕ → ℕ) (queue : Queue) (at : ℕ) (ws : Waiters) → sum_by weight (pairs_in queue at ws) ≡ weight_of weight queue at ws
pairs_weight weight queue at [] = refl
pairs_weight weight queue at (cell ∷ ws) =
    omega (
      arith,
      sum_by-append weight (pair_in queue at cell) (pairs_in queue (suc at) ws),
      pair_weight weight queue at cell,
      pairs_weight weight queue (suc at) ws,
    )

-- a queue weighs what those that wait in it weigh
pub weighs : (lined : Lined) (ws : Waiters) → AreLinedUp lined ws → (queue : Queue) → IsQueueOf (length lined.own) queue → (weight : Key × ℕ → ℕ)
    → line_weight weight lined queue ≡ weight_of weight queue 0 ws
weighs lined ws is queue within weight =
    held_weight weight lined queue ∙ sum_by-IsPermutation weight (pairs_in queue 0 ws) (held_in lined queue) (is.holds queue within)
    ∙ pairs_weight weight queue 0 ws

-- and holds just their pairs where it weighs that, whatever each pair weighs
pub held : (lined : Lined) (ws : Waiters) (queue : Queue) → ((weight : Key × ℕ → ℕ) → line_weight weight lined queue ≡ weight_of weight queue 0 ws)
    → IsPermutation (pairs_in queue 0 ws) (held_in lined queue)
held lined ws queue alike =
    alike_held (pairs_in queue 0 ws) (held_in lined queue)
    (λ weight. pairs_weight weight queue 0 ws ∙ sym (alike weight) ∙ held_weight weight lined queue)
