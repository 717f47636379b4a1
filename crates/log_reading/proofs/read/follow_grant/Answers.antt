use Rattle.std.proofs.Common.{◌≡◌, ℕ, zero, suc, List, Option, Some, is_some, IsTrue, length, sym, ap, ◌∙◌, ◌<◌, subst, refl, arith}
use Rattle.std.specs.BTreeMap.{get}
use Rattle.std.specs.Ordering.{nat_cmp, ordering_then}
use Rattle.std.specs.declared.cmp.Ordering.{Ordering}
use Rattle.log_entries.specs.contracts.queue.QueueOrd.TheImpl as derived
use Rattle.std.specs.Option.{unwrap_or, IsSomeAnd}
use Rattle.log_entries.specs.declared.entry.Entry.{Entry}
use Rattle.log_entries.specs.declared.queue.Queue.{Queue}
use Rattle.due_key.specs.declared.key.Key.{Key}
use Rattle.log_reading.specs.Grants.{key_known, joining_of, has_joined}
use Rattle.log_reading.specs.Index.{wait_cmp, IsIndexOf}
use Rattle.log_reading.specs.Readable.{HasArrived}
use Rattle.log_reading.specs.Windows.{base_rows}
use Rattle.log_reading.specs.declared.base.BaseRow.{BaseRow}
use Rattle.log_reading.specs.declared.read.Index.{Index}
use Rattle.log_reading.proofs.Indexed.{wait_order}
use Rattle.log_reading.proofs.Pushes.{grant_may_follow}
use Rattle.log_reading.proofs.read.follow_grant.Goals as goal
use Rattle.base_lists.proofs.Never.{false_true}

-- a joining that was found
module _ (base : List BaseRow) (log : List Entry) (index : Index) (is : IsIndexOf base log index) (ticket joined : ℕ) (queue : Queue)
    (found : get wait_cmp index.joinings (ticket, queue) ≡ Some joined) where
  found_at : joining_of ticket queue log ≡ joined
  found_at = sym (is.joinings ticket queue) ∙ ap (λ (o : Option ℕ). unwrap_or o 0) found

  found_there : IsTrue (has_joined base ticket queue log)
  found_there = sym (is.joined ticket queue) ∙ ap is_some found

-- what is found by the order that code compares by is found by theirs
by_order : (index : Index) (wait : ℕ × Queue) (o : Option ℕ)
    → get (λ (a b : ℕ × Queue). ordering_then (nat_cmp a.0 b.0) (derived.ghosts.cmp a.1 b.1)) index.joinings wait ≡ o → get wait_cmp index.joinings wait ≡ o
by_order index wait o = subst (λ (cmp : ℕ × Queue → ℕ × Queue → Ordering). get cmp index.joinings wait ≡ o) wait_order

not_zero : (n : ℕ) → (n ≡ 0 → ⊥) → 0 < n
not_zero zero some = absurd (some refl)
not_zero (suc n) some = omega arith

pub note_grant-requires-clause-joined : goal.note_grant-requires-clause-joined
note_grant-requires-clause-joined c =
    let a = c.args in
    found_at (base_rows a.log.now.base.rows) a.log.now.entries a.index.now c.requires.indexed a.ticket c.in-Some-copied.joined a.queue
    (by_order a.index.now (a.ticket, a.queue) _ (sym c.get-2.ensures.value ∙ sym c.copied.ensures ∙ c.in-Some-copied.is))

pub note_grant-requires-clause-waits : goal.note_grant-requires-clause-waits
note_grant-requires-clause-waits c =
    let a = c.args in
    found_there (base_rows a.log.now.base.rows) a.log.now.entries a.index.now c.requires.indexed a.ticket c.in-Some-copied.joined a.queue
    (by_order a.index.now (a.ticket, a.queue) _ (sym c.get-2.ensures.value ∙ sym c.copied.ensures ∙ c.in-Some-copied.is))

pub returns-clause-follows : goal.returns-clause-follows
returns-clause-follows c =
    let a = c.args in
    let key = c.in-Some.known.now in
    let base = base_rows a.log.now.base.rows in
    let log = a.log.now.entries in
    let known : Some key ≡ key_known base a.ticket log = c.in-Some.ensures.value ∙ c.requires.indexed.keys a.ticket in
    let has : HasArrived base log a.ticket key.class key.due =
    subst (λ (o : Option Key). IsSomeAnd o (λ it. (it.class ≡ key.class) × (it.due ≡ key.due))) known (refl, refl) in
    let waits = found_there base log a.index.now c.requires.indexed a.ticket c.in-Some-copied.joined a.queue
    (by_order a.index.now (a.ticket, a.queue) _ (sym c.get-2.ensures.value ∙ sym c.copied.ensures ∙ c.in-Some-copied.is)) in
    let begun : 0 < length log = not_zero (length log) (λ none. false_true (c.if-is_empty.ensures.1 none)) in
    grant_may_follow base log a.ticket a.server a.queue key.class key.due begun has waits
