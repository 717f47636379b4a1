-- The same rows at other places, and what entries make of them.
use Rattle.std.proofs.Common.{◌≡◌, ◌≢◌, ℕ, ◌+◌, Option, None, Some, slice_get, option_map, slice_set, count_by, refl, ap, sym, ◌∙◌, subst, arith, inl, inr}
use Rattle.std.specs.Option.{option_and_then}
use Rattle.std.proofs.Math.ListN.{set}
use Rattle.std.proofs.lemmas.Option.{same_Some, slice_get-map}
use Rattle.base_lists.proofs.Counts.{count-map}
use Rattle.base_lists.proofs.Never.{none_some}
use Rattle.base_lists.proofs.Places.{tally, get-set_same, get-set_other, get-set_cases, count-set}
use Rattle.log_entries.specs.declared.entry.Arrival.{Arrival}
use Rattle.log_entries.specs.declared.entry.Entry.{Entry}
use Rattle.log_entries.specs.declared.entry.Entry.TheVariants.{Arrive, Done, Fail, Abort, Tick, Check, Limit, Direct}
use Rattle.log_entries.specs.declared.entry.Entry.TheVariants.{Joined, Granted, Moved, Freed, Retried, Left, Health, Ended}
use Rattle.log_entries.specs.declared.row.Phase.TheVariants.{Loose, Waiting, Serving, Told}
use Rattle.log_entries.specs.declared.row.Row.{Row}
use Rattle.log_entries.specs.declared.setup.Setup.{Setup}
use Rattle.log_entries.specs.Determined.{HaveSameRows, IsSameButForPlaces}
use Rattle.log_entries.specs.Retries.{failed}
use Rattle.log_entries.specs.Rows.{Rows, IsRow, IsVacant, row_of, with_change, changed, in_phase, in_backend_since, gone, pin_of, is_served_by}
use Rattle.log_entries.specs.States.{State, after, arrived, cursor_after_placing, cursor_after_joining}
use Rattle.log_entries.proofs.Accepted.{row_of_found}
use Rattle.log_entries.proofs.RowLemmas.{HaveOwnTickets, row_of_at, row_of_none}

pub same_rows-flip : (rows other : Rows) → HaveSameRows rows other → HaveSameRows other rows
same_rows-flip rows other same = record { there = same.back; back = same.there; counted = λ test none. sym (same.counted test none) }

pub same_rows-itself : (rows : Rows) → HaveSameRows rows rows
same_rows-itself rows = record { there = λ row live. live; back = λ row live. live; counted = λ test none. refl }

-- a ticket has the same row
pub row_of-same : (rows other : Rows) → HaveSameRows rows other → HaveOwnTickets rows → HaveOwnTickets other → (t : ℕ) → row_of t rows ≡ row_of t other
row_of-same rows other same own theirs t = by_row (row_of t rows) refl
  where
    by_row : (o : Option Row) → row_of t rows ≡ o → row_of t rows ≡ row_of t other
    by_row None e =
        e ∙ sym (row_of_none other t (λ p r stands named.
        let it = same.back r (p, stands) in
        none_some (sym e ∙ row_of_at rows t it.0 r own it.1 named)))
    by_row (Some r) e =
        let at = row_of_found rows t r e in
        let it = same.there r (at.place, at.stands) in
        e ∙ sym (row_of_at other t it.0 r theirs it.1 at.named)

-- the rows that a change leaves
pub changed_row : (rows : Rows) (u : ℕ) (f : Row → Option Row) (r : Row) → IsRow (changed u f rows) r
    → (w : Row) × IsRow rows w × (with_change u f (Some w) ≡ Some r)
changed_row rows u f r (p, stands) = by_cell (slice_get rows p) refl (sym (slice_get-map (with_change u f) rows p) ∙ stands)
  where
    by_cell : (o : Option (Option Row)) → slice_get rows p ≡ o → option_map (with_change u f) o ≡ Some (Some r)
        → (w : Row) × IsRow rows w × (with_change u f (Some w) ≡ Some r)
    by_cell None e made = none_some made
    by_cell (Some None) e made = none_some (same_Some None (Some r) made)
    by_cell (Some (Some w)) e made = (w, (p, e), same_Some _ (Some r) made)

into_changed : (rows : Rows) (u : ℕ) (f : Row → Option Row) (w r : Row) → IsRow rows w → with_change u f (Some w) ≡ Some r → IsRow (changed u f rows) r
into_changed rows u f w r (p, stands) made = (p, slice_get-map (with_change u f) rows p ∙ ap (option_map (with_change u f)) stands ∙ ap Some made)

pub changed-same : (rows other : Rows) (u : ℕ) (f : Row → Option Row) → HaveSameRows rows other → HaveSameRows (changed u f rows) (changed u f other)
changed-same rows other u f same = record {
  there = λ r live. let it = changed_row rows u f r live in into_changed other u f it.0 r (same.there it.0 it.1) it.2;
  back = λ r live. let it = changed_row other u f r live in into_changed rows u f it.0 r (same.back it.0 it.1) it.2;
  counted = λ test none. count-map test (with_change u f) rows ∙ same.counted (λ cell. test (with_change u f cell)) none
      ∙ sym (count-map test (with_change u f) other);
}

-- a row that comes, at a vacant place of each
kept_row : (rows : Rows) (p : ℕ) (cell : Option Row) (r : Row) → IsVacant rows p → IsRow rows r → IsRow (set rows p cell) r
kept_row rows p cell r vacant (k, stands) =
    let other : k ≢ p = λ here. none_some (same_Some None (Some r) (sym vacant ∙ subst (λ n. slice_get rows n ≡ Some (Some r)) here stands)) in
    (k, get-set_other rows p k cell other ∙ stands)

module _ (rows other : Rows) (p q : ℕ) (r : Row) (same : HaveSameRows rows other) (vacant : IsVacant rows p) (free : IsVacant other q) where
  come_there : (x : Row) → IsRow (set rows p (Some r)) x → IsRow (set other q (Some r)) x
  come_there x (k, stands) = elim (get-set_cases rows p k None (Some r) (Some x) vacant stands) [
    | inl e ↦ (q, get-set_same other q None (Some r) free ∙ ap Some e.1)
    | inr e ↦ kept_row other q (Some r) x free (same.there x (k, e.1))
  ]

pub come-same : (rows other : Rows) (p q : ℕ) (r : Row) → HaveSameRows rows other → IsVacant rows p → IsVacant other q
    → HaveSameRows (set rows p (Some r)) (set other q (Some r))
come-same rows other p q r same vacant free = record {
  there = come_there rows other p q r same vacant free;
  back = come_there other rows q p r (same_rows-flip rows other same) free vacant;
  counted = λ test none.
      let mine : count_by test (set rows p (Some r)) + tally (test None) ≡ count_by test rows + tally (test (Some r)) =
      count-set test rows p None (Some r) vacant in
      let its : count_by test (set other q (Some r)) + tally (test None) ≡ count_by test other + tally (test (Some r)) =
      count-set test other q None (Some r) free in
      let before : count_by test rows ≡ count_by test other = same.counted test none in
      omega arith;
}

pub same_state-flip : (s other : State) → IsSameButForPlaces s other → IsSameButForPlaces other s
same_state-flip s other same = record {
  rows = same_rows-flip s.rows other.rows same.rows;
  rest = sym (ap (λ (x : State). record x { rows = s.rows }) same.rest);
}

pub same_state-itself : (s : State) → IsSameButForPlaces s s
same_state-itself s = record { rows = same_rows-itself s.rows; rest = refl }

-- what an entry makes of states that are the same but for places
module _ (setup : Setup) (s : State) (other : Rows) (same : HaveSameRows s.rows other) (own : HaveOwnTickets s.rows) (theirs : HaveOwnTickets other) where
  pub pin_of-same : (u : ℕ) → pin_of u other ≡ pin_of u s.rows
  pin_of-same u = ap (λ (o : Option Row). option_and_then (λ (row : Row). row.pin) o) (sym (row_of-same s.rows other same own theirs u))

  there_too : (e : Entry) → (rest : after setup (record s { rows = other }) e
      ≡ record (after setup s e) { rows = (after setup (record s { rows = other }) e).rows })
      → HaveSameRows (after setup s e).rows (after setup (record s { rows = other }) e).rows
      → IsSameButForPlaces (after setup s e) (after setup (record s { rows = other }) e)
  there_too e rest rows = record { rows = rows; rest = rest }

  changed_too : (u : ℕ) (f : Row → Option Row) → HaveSameRows (changed u f s.rows) (changed u f other)
  changed_too u f = changed-same s.rows other u f same

  pub after-same : (e : Entry) → ((m : ℕ) (a : Arrival) → e ≢ Arrive m a) → IsSameButForPlaces (after setup s e) (after setup (record s { rows = other }) e)
  after-same (Arrive m a) none = absurd (none m a refl)
  after-same (Done m u) none = there_too (Done m u) refl same
  after-same (Fail m u) none = there_too (Fail m u) refl (changed_too u (failed setup))
  after-same (Abort m u) none = there_too (Abort m u) refl same
  after-same (Tick m) none = there_too (Tick m) refl same
  after-same (Check m v ok) none = there_too (Check m v ok) refl same
  after-same (Limit m v k) none =
      there_too (Limit m v k)
      (ap (λ (n : ℕ). record s { rows = other; limits = slice_set s.limits v (record { limit = k; served = n }); moment = m })
      (sym (same.counted (is_served_by v) refl)))
      same
  after-same (Direct u v) none =
      there_too (Direct u v)
      (ap (λ (pin : Option ℕ). record s { rows = changed u (in_phase (Serving v)) other; cursor = cursor_after_placing v pin s.cursor }) (pin_of-same u))
      (changed_too u (in_phase (Serving v)))
  after-same (Joined u q) none =
      there_too (Joined u q)
      (ap (λ (pin : Option ℕ). record s { rows = changed u (in_phase (Waiting q s.moment)) other; cursor = cursor_after_joining q pin s.cursor })
      (pin_of-same u))
      (changed_too u (in_phase (Waiting q s.moment)))
  after-same (Granted u q v) none = there_too (Granted u q v) refl (changed_too u (in_phase (Serving v)))
  after-same (Moved u v) none = there_too (Moved u v) refl (changed_too u (in_backend_since s.moment))
  after-same (Freed u v) none = there_too (Freed u v) refl (changed_too u (in_phase Loose))
  after-same (Retried u v k) none = there_too (Retried u v k) refl same
  after-same (Left u c) none = there_too (Left u c) refl (changed_too u (in_phase (Told c)))
  after-same (Health v up) none = there_too (Health v up) refl same
  after-same (Ended u) none = there_too (Ended u) refl (changed_too u gone)

  pub arrived-same : (m : ℕ) (a b : Arrival) → IsVacant s.rows a.place → IsVacant other b.place → record a { place = 0 } ≡ record b { place = 0 }
      → IsSameButForPlaces (after setup s (Arrive m a)) (after setup (record s { rows = other }) (Arrive m b))
  arrived-same m a b vacant free alike =
      let row : arrived a ≡ arrived b = ap arrived alike in
      let ticket : a.ticket ≡ b.ticket = ap (λ (x : Arrival). x.ticket) alike in
      record {
        rows = subst (λ (r : Row). HaveSameRows (set s.rows a.place (Some (arrived a))) (set other b.place (Some r))) row
            (come-same s.rows other a.place b.place (arrived a) same vacant free);
        rest = ap (λ (k : ℕ). record s { rows = set other b.place (Some (arrived b)); moment = m; ticket = k }) (sym ticket);
      }
