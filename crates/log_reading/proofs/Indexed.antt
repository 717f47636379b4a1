-- The index of a log with an entry more.
use Rattle.std.proofs.Common.{◌≡◌, ℕ, zero, suc, ◌+◌, ◌<◌, ◌==◌, ◌&&◌, Bool, true, false, cond, List, [], ◌∷◌, ◌++◌, Option, None, Some}
use Rattle.std.proofs.Common.{is_some, nat_lt, ◌||◌, length, take, get_or, append_assoc, refl, ap, sym, ◌∙◌, subst, arith, is_eq, Result, Ok, Err, OnOk}
use Rattle.std.specs.declared.alloc.AllocError.{AllocError}
use Rattle.std.specs.BTreeMap.{get}
use Rattle.std.specs.Option.{unwrap_or, option_map_or}
use Rattle.std.proofs.lemmas.List.{append-nil}
use Rattle.std.specs.Ordering.{nat_cmp, ordering_then}
use Rattle.std.specs.declared.cmp.Ordering.{Ordering}
use Rattle.log_entries.specs.contracts.queue.QueueOrd.TheImpl as derived
use Rattle.log_entries.proofs.QueueOrder.{queue_order}
use Rattle.std.proofs.lemmas.Bool.Decides.{nat_tests}
use Rattle.log_entries.specs.declared.entry.Arrival.{Arrival}
use Rattle.log_entries.specs.declared.entry.Entry.{Entry}
use Rattle.log_entries.specs.declared.entry.Entry.TheVariants.{Arrive, Joined, Moved}
use Rattle.log_entries.specs.declared.queue.Queue.{Queue}
use Rattle.log_entries.specs.declared.queue.Queue.TheVariants.{Backend, Server}
use Rattle.log_entries.specs.Rows.{same_queue}
use Rattle.log_reading.specs.Grants.{Wait, arrival_in, joining_in, key_known, joining_of, has_joined}
use Rattle.log_reading.specs.Windows.{waited_in, newer_base_key}
use Rattle.log_reading.specs.declared.base.BaseRow.{BaseRow}
use Rattle.due_key.specs.declared.key.Key.{Key}
use Rattle.log_entries.specs.States.{key_of}
use Rattle.std.proofs.lemmas.List.Sums.{fold_push}
use Rattle.log_reading.specs.Index.{wait_cmp, IsIndexOf}
use Rattle.log_reading.specs.declared.read.Index.{Index}
use Rattle.log_reading.specs.Readable.{MayFollow, AllFollow}
use Rattle.log_reading.proofs.Back.{known-push}
use Rattle.log_reading.proofs.Joinings.{joining_of-push, joined-push}

-- what code compares tickets in queues by is their order
pub wait_order : (λ (a b : ℕ × Queue). ordering_then (nat_cmp a.0 b.0) (derived.ghosts.cmp a.1 b.1)) ≡ wait_cmp
wait_order = λ i a b. ordering_then (nat_cmp a.0 b.0) (queue_order i a.1 b.1)

-- where a ticket was put into a queue at a position, and nothing else was, by an order
abbrev pub IsPutAt : (ℕ × Queue → ℕ × Queue → Ordering) → Index → Index → ℕ → Queue → ℕ → Type 0
IsPutAt cmp old new t q n = (w : ℕ × Queue) → get cmp new.joinings w ≡ cond (is_eq (cmp (t, q) w)) (Some n) (get cmp old.joinings w)

same_number : (x y : ℕ) → is_eq (nat_cmp x y) ≡ (x == y)
same_number x y = grind (arith, nat_tests)

same_wait : (t u : ℕ) (q p : Queue) → is_eq (wait_cmp (u, p) (t, q)) ≡ ((u == t) && same_queue q p)
same_wait t u Backend Backend = grind (arith, nat_tests)
same_wait t u Backend (Server m) = grind (arith, nat_tests)
same_wait t u (Server n) Backend = grind (arith, nat_tests)
same_wait t u (Server n) (Server m) = grind (arith, nat_tests)

-- what an entry makes of a ticket's key and of a joining, by what it is
known_after : (base : List BaseRow) (t : ℕ) (log : List Entry) (e : Entry) (o : Option Arrival) → arrival_in e ≡ o
    → key_known base t (log ++ e ∷ []) ≡ option_map_or (λ (it : Arrival). cond (it.ticket == t) (Some (key_of it)) (key_known base t log)) o
    (key_known base t log)
known_after base t log e o is = known-push base t log e
    ∙ ap (λ x. option_map_or (λ (it : Arrival). cond (it.ticket == t) (Some (key_of it)) (key_known base t log)) x (key_known base t log)) is

abbrev is_own : ℕ → Queue → Wait → Bool
is_own t q it = (it.ticket == t) && same_queue q it.queue

joining_after : (t : ℕ) (q : Queue) (log : List Entry) (e : Entry) (o : Option Wait) → joining_in e ≡ o
    → joining_of t q (log ++ e ∷ []) ≡ cond (option_map_or (is_own t q) o false) (length log + 1) (joining_of t q log)
joining_after t q log e o is = joining_of-push t q log e ∙ ap (λ x. cond (option_map_or (is_own t q) x false) (length log + 1) (joining_of t q log)) is

joined_after : (base : List BaseRow) (t : ℕ) (q : Queue) (log : List Entry) (e : Entry) (o : Option Wait) → joining_in e ≡ o
    → has_joined base t q (log ++ e ∷ []) ≡ option_map_or (is_own t q) o false || has_joined base t q log
joined_after base t q log e o is = joined-push base t q log e ∙ ap (λ x. option_map_or (is_own t q) x false || has_joined base t q log) is

pub index_arrival : (base : List BaseRow) (log : List Entry) (m : ℕ) (a : Arrival) (old new : Index) → IsIndexOf base log old → new.joinings ≡ old.joinings
    → ((t : ℕ) → get nat_cmp new.keys t ≡ cond (is_eq (nat_cmp a.ticket t)) (Some (key_of a)) (get nat_cmp old.keys t))
    → IsIndexOf base (log ++ Arrive m a ∷ []) new
index_arrival base log m a old new is same updates = record {
  keys = λ t.
      updates t ∙ ap (λ b. cond b (Some (key_of a)) (get nat_cmp old.keys t)) (same_number a.ticket t)
      ∙ ap (λ o. cond (a.ticket == t) (Some (key_of a)) o) (is.keys t)
      ∙ sym (known_after base t log (Arrive m a) (Some a) refl);
  joined = λ t q. ap (λ j. is_some (get wait_cmp j (t, q))) same ∙ is.joined t q ∙ sym (joined_after base t q log (Arrive m a) None refl);
  joinings = λ t q. ap (λ j. unwrap_or (get wait_cmp j (t, q)) 0) same ∙ is.joinings t q ∙ sym (joining_after t q log (Arrive m a) None refl);
}

pub index_joined : (base : List BaseRow) (log : List Entry) (e : Entry) (u : ℕ) (p : Queue) (old new : Index) → IsIndexOf base log old → arrival_in e ≡ None
    → joining_in e ≡ Some (record { ticket = u; queue = p }) → new.keys ≡ old.keys
    → ((w : ℕ × Queue) → get wait_cmp new.joinings w ≡ cond (is_eq (wait_cmp (u, p) w)) (Some (length log + 1)) (get wait_cmp old.joinings w))
    → IsIndexOf base (log ++ e ∷ []) new
index_joined base log e u p old new is no_arrival begins same updates = record {
  keys = λ t. ap (λ m. get nat_cmp m t) same ∙ is.keys t ∙ sym (known_after base t log e None no_arrival);
  joined = λ t q.
      ap is_some (updated t q) ∙ found t q ((u == t) && same_queue q p) ∙ sym (joined_after base t q log e (Some (record { ticket = u; queue = p })) begins);
  joinings = λ t q.
      ap (λ o. unwrap_or o 0) (updated t q) ∙ pushed t q ((u == t) && same_queue q p)
      ∙ sym (joining_after t q log e (Some (record { ticket = u; queue = p })) begins);
}
  where
    updated : (t : ℕ) (q : Queue) → get wait_cmp new.joinings (t, q)
        ≡ cond ((u == t) && same_queue q p) (Some (length log + 1)) (get wait_cmp old.joinings (t, q))
    updated t q = updates (t, q) ∙ ap (λ b. cond b (Some (length log + 1)) (get wait_cmp old.joinings (t, q))) (same_wait t u q p)

    pushed : (t : ℕ) (q : Queue) (b : Bool) → unwrap_or (cond b (Some (length log + 1)) (get wait_cmp old.joinings (t, q))) 0
        ≡ cond b (length log + 1) (joining_of t q log)
    pushed t q true = refl
    pushed t q false = is.joinings t q

    found : (t : ℕ) (q : Queue) (b : Bool) → is_some (cond b (Some (length log + 1)) (get wait_cmp old.joinings (t, q)))
        ≡ b || has_joined base t q log
    found t q true = refl
    found t q false = is.joined t q

-- an entry that is neither an arrival nor a joining changes nothing
pub index_same : (base : List BaseRow) (log : List Entry) (e : Entry) (index : Index) → arrival_in e ≡ None → joining_in e ≡ None → IsIndexOf base log index
    → IsIndexOf base (log ++ e ∷ []) index
index_same base log e index no_arrival no_joining is = record {
  keys = λ t. is.keys t ∙ sym (known_after base t log e None no_arrival);
  joined = λ t q. is.joined t q ∙ sym (joined_after base t q log e None no_joining);
  joinings = λ t q. is.joinings t q ∙ sym (joining_after t q log e None no_joining);
}

-- a live request of the base more
waited-push : (t : ℕ) (q : Queue) (base : List BaseRow) (row : BaseRow)
    → waited_in t q (base ++ row ∷ []) ≡ ((row.ticket == t) && option_map_or (same_queue q) row.queue false) || waited_in t q base
waited-push t q [] row = refl
waited-push t q (x ∷ base) row =
    ap (λ b. ((x.ticket == t) && option_map_or (same_queue q) x.queue false) || b) (waited-push t q base row)
    ∙ swap ((x.ticket == t) && option_map_or (same_queue q) x.queue false) ((row.ticket == t) && option_map_or (same_queue q) row.queue false) (waited_in t q base)
  where
    swap : (a b c : Bool) → a || (b || c) ≡ b || (a || c)
    swap true true c = refl
    swap true false c = refl
    swap false b c = refl

abbrev key_in : BaseRow → Key
key_in row = record { class = row.class; due = row.due; ticket = row.ticket }

known_at_base : (base : List BaseRow) (row : BaseRow) (t : ℕ)
    → key_known (base ++ row ∷ []) t [] ≡ cond (row.ticket == t) (Some (key_in row)) (key_known base t [])
known_at_base base row t = fold_push (newer_base_key t) None base row

-- whether it waits in the queue or not
pub index_row : (base : List BaseRow) (row : BaseRow) (old new : Index) → IsIndexOf base [] old
    → ((t : ℕ) → get nat_cmp new.keys t ≡ cond (is_eq (nat_cmp row.ticket t)) (Some (key_in row)) (get nat_cmp old.keys t))
    → (row.queue ≡ None → new.joinings ≡ old.joinings)
    → ((p : Queue) → row.queue ≡ Some p → (w : ℕ × Queue)
    → get wait_cmp new.joinings w ≡ cond (is_eq (wait_cmp (row.ticket, p) w)) (Some 0) (get wait_cmp old.joinings w))
    → IsIndexOf (base ++ row ∷ []) [] new
index_row base row old new is keys none some = record {
  keys = λ t. keys t ∙ ap (λ b. cond b (Some (key_in row)) (get nat_cmp old.keys t)) (same_number row.ticket t)
      ∙ ap (λ o. cond (row.ticket == t) (Some (key_in row)) o) (is.keys t) ∙ sym (known_at_base base row t);
  joined = λ t q. by_queue t q row.queue refl
      ∙ sym (ap (λ b. b || nat_lt 0 0) (waited-push t q base row)
      ∙ or_none ((row.ticket == t) && option_map_or (same_queue q) row.queue false) (waited_in t q base));
  joinings = λ t q. number t q row.queue refl;
}
  where
    or_none : (a b : Bool) → (a || b) || nat_lt 0 0 ≡ a || (b || nat_lt 0 0)
    or_none true b = refl
    or_none false b = refl

    updated : (t : ℕ) (q p : Queue) → row.queue ≡ Some p
        → get wait_cmp new.joinings (t, q) ≡ cond ((row.ticket == t) && same_queue q p) (Some 0) (get wait_cmp old.joinings (t, q))
    updated t q p at = some p at (t, q) ∙ ap (λ b. cond b (Some 0) (get wait_cmp old.joinings (t, q))) (same_wait t row.ticket q p)

    found : (t : ℕ) (q : Queue) (b : Bool) → is_some (cond b (Some 0) (get wait_cmp old.joinings (t, q))) ≡ b || has_joined base t q []
    found t q true = refl
    found t q false = is.joined t q

    not_there : (a : Bool) (c : Bool) → (a && false) || c ≡ c
    not_there true c = refl
    not_there false c = refl

    by_queue : (t : ℕ) (q : Queue) (o : Option Queue) → row.queue ≡ o
        → is_some (get wait_cmp new.joinings (t, q)) ≡ ((row.ticket == t) && option_map_or (same_queue q) o false) || has_joined base t q []
    by_queue t q None at = ap (λ j. is_some (get wait_cmp j (t, q))) (none at) ∙ is.joined t q
        ∙ sym (not_there (row.ticket == t) (has_joined base t q []))
    by_queue t q (Some p) at = ap is_some (updated t q p at) ∙ found t q ((row.ticket == t) && same_queue q p)

    zeroed : (t : ℕ) (q : Queue) (b : Bool) → unwrap_or (cond b (Some 0) (get wait_cmp old.joinings (t, q))) 0 ≡ joining_of t q []
    zeroed t q true = refl
    zeroed t q false = is.joinings t q

    number : (t : ℕ) (q : Queue) (o : Option Queue) → row.queue ≡ o → unwrap_or (get wait_cmp new.joinings (t, q)) 0 ≡ joining_of t q []
    number t q None at = ap (λ j. unwrap_or (get wait_cmp j (t, q)) 0) (none at) ∙ is.joinings t q
    number t q (Some p) at = ap (λ o. unwrap_or o 0) (updated t q p at) ∙ zeroed t q ((row.ticket == t) && same_queue q p)

pub not_arrival : (e : Entry) → ((m : ℕ) (a : Arrival) → e ≡ Arrive m a → ⊥) → arrival_in e ≡ None
not_arrival (Arrive m a) other = absurd (other m a refl)
not_arrival e other = refl

pub not_joining : (e : Entry) → ((t : ℕ) (q : Queue) → e ≡ Joined t q → ⊥) → ((t v : ℕ) → e ≡ Moved t v → ⊥) → joining_in e ≡ None
not_joining (Joined t q) other moved = absurd (other t q refl)
not_joining (Moved t v) other moved = absurd (moved t v refl)
not_joining e other moved = refl

-- the index of a log with one joining more
pub joining_indexed : (result : Result (Unit {0}) AllocError) (at t : ℕ) (q : Queue) (e : Entry) (old new : Index) → arrival_in e ≡ None
    → joining_in e ≡ Some (record { ticket = t; queue = q })
    → OnOk result ((base : List BaseRow) (log : List Entry) (entry : Entry) → at ≡ length log + 1 → arrival_in entry ≡ None
    → joining_in entry ≡ Some (record { ticket = t; queue = q }) → IsIndexOf base log old → IsIndexOf base (log ++ entry ∷ []) new)
    → OnOk result ((base : List BaseRow) (log : List Entry) → at ≡ length log + 1 → IsIndexOf base log old → IsIndexOf base (log ++ e ∷ []) new)
joining_indexed (Ok u) at t q e old new no_arrival begins noted = λ base log long is. noted base log e long no_arrival begins is
joining_indexed (Err x) at t q e old new no_arrival begins noted = tt

-- what may follow where it stands in a readable log
pub follows_at : (base : List BaseRow) (past es : List Entry) → AllFollow base past es → (i : ℕ) (d : Entry) → i < length es
    → MayFollow base (past ++ take i es) (get_or es i d)
follows_at base past [] all i d below = absurd (omega arith)
follows_at base past (e ∷ es) all zero d below = subst (λ l. MayFollow base l e) (sym (append-nil past)) all.0
follows_at base past (e ∷ es) all (suc i) d below =
    subst (λ l. MayFollow base l (get_or es i d)) (append_assoc past (e ∷ []) (take i es)) (follows_at base (past ++ e ∷ []) es all.1 i d (omega arith))
