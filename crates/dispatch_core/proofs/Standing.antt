-- A live request stays at its place.
use Rattle.std.proofs.Common.{◌≡◌, ℕ, ◌==◌, Bool, true, false, cond, Option, Some, option_map, refl, ap, sym, ◌∙◌, subst}
use Rattle.std.proofs.lemmas.Option.{slice_get-map}
use Rattle.due_key.specs.declared.key.Key.{Key}
use Rattle.log_entries.specs.declared.entry.Entry.{Entry}
use Rattle.log_entries.specs.declared.entry.Entry.TheVariants.{Done, Fail, Abort, Freed}
use Rattle.log_entries.specs.declared.row.Phase.TheVariants.{Loose}
use Rattle.log_entries.specs.declared.row.Row.{Row}
use Rattle.log_entries.specs.Histories.{History, state_of}
use Rattle.log_entries.specs.Retries.{failed, failed_row}
use Rattle.log_entries.specs.Rows.{Rows, with_change, changed, in_phase}
use Rattle.log_entries.specs.States.{State, after}
use Rattle.log_entries.proofs.Judged.{after_all-push}
use Rattle.dispatch_state.specs.declared.position.Ticketed.{Ticketed}
use Rattle.dispatch_state.specs.Histories.{with_entry, IsTicketAt, IsFound}

-- a change that keeps keys
abbrev pub KeepsKeys : (Row → Option Row) → Type 0
KeepsKeys f = (r : Row) → (new : Row) × (f r ≡ Some new) × (new.key ≡ r.key)

pub at_changed : (rows : Rows) (u : ℕ) (f : Row → Option Row) (it : Ticketed) → KeepsKeys f → IsTicketAt rows it → IsTicketAt (changed u f rows) it
at_changed rows u f it keeps at = by_own (at.0.key.ticket == u) refl
  where
    by_own : (own : Bool) → (at.0.key.ticket == u) ≡ own → IsTicketAt (changed u f rows) it
    by_own true e =
        let new = keeps at.0 in (
          new.0,
          slice_get-map (with_change u f) rows it.place ∙ ap (option_map (with_change u f)) at.1
              ∙ ap (λ (b : Bool). Some (cond {A = Option Row} b (f at.0) (Some at.0))) e ∙ ap Some new.1,
          ap (λ (k : Key). k.ticket) new.2 ∙ at.2,
        )
    by_own false e = (
      at.0,
      slice_get-map (with_change u f) rows it.place ∙ ap (option_map (with_change u f)) at.1
          ∙ ap (λ (b : Bool). Some (cond {A = Option Row} b (f at.0) (Some at.0))) e,
      at.2,
    )

-- an entry of the request that was found is one of its ticket
pub of_ticket : (h one : History) (e : ℕ → Entry) (t : ℕ) (it : Ticketed) → IsFound (state_of h).rows t it → one ≡ with_entry h (e it.ticket)
    → one ≡ with_entry h (e t)
of_ticket h one e t it found goes = goes ∙ ap (λ n. with_entry h (e n)) found.named

-- after an entry that leaves the keys of all rows
pub at_after : (h one : History) (e : Entry) (it : Ticketed) → one ≡ with_entry h e
    → (IsTicketAt (state_of h).rows it → IsTicketAt (after h.setup (state_of h) e).rows it) → IsTicketAt (state_of h).rows it → IsTicketAt (state_of one).rows it
at_after h one e it goes keeps at =
    subst (λ (x : History). IsTicketAt (state_of x).rows it) (sym goes)
    (subst (λ (s : State). IsTicketAt s.rows it) (sym (after_all-push h.setup h.base h.log e)) (keeps at))

pub at_done : (h one : History) (m u : ℕ) (it : Ticketed) → one ≡ with_entry h (Done m u) → IsTicketAt (state_of h).rows it → IsTicketAt (state_of one).rows it
at_done h one m u it goes at = at_after h one (Done m u) it goes (λ a. a) at

pub at_abort : (h one : History) (m u : ℕ) (it : Ticketed) → one ≡ with_entry h (Abort m u) → IsTicketAt (state_of h).rows it → IsTicketAt (state_of one).rows it
at_abort h one m u it goes at = at_after h one (Abort m u) it goes (λ a. a) at

pub at_fail : (h one : History) (m u : ℕ) (it : Ticketed) → one ≡ with_entry h (Fail m u) → IsTicketAt (state_of h).rows it → IsTicketAt (state_of one).rows it
at_fail h one m u it goes at =
    at_after h one (Fail m u) it goes (at_changed (state_of h).rows u (failed h.setup) it (λ r. (failed_row h.setup r, refl, refl))) at

pub at_freed : (h one : History) (u v : ℕ) (it : Ticketed) → one ≡ with_entry h (Freed u v) → IsTicketAt (state_of h).rows it → IsTicketAt (state_of one).rows it
at_freed h one u v it goes at =
    at_after h one (Freed u v) it goes (at_changed (state_of h).rows u (in_phase Loose) it (λ r. (record r { phase = Loose }, refl, refl))) at
