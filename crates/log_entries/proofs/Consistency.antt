-- What every state of a log that is judged has: each ticket one row, no ticket beyond the last one, and no row in no
-- place but the one that the stage speaks of.
use Rattle.std.proofs.Common.{◌≡◌, ◌≢◌, ℕ, ◌+◌, ◌≤◌, Option, None, Some, refl, ap, sym, ◌∙◌, subst, arith, inl, inr}
use Rattle.std.proofs.Math.ListN.{set}
use Rattle.std.proofs.lemmas.Option.{same_Some}
use Rattle.log_entries.specs.declared.row.Phase.TheVariants.{Loose}
use Rattle.log_entries.specs.declared.row.Row.{Row}
use Rattle.log_entries.specs.Judgement.{Stage, placing, ending, freed_by_failure}
use Rattle.log_entries.specs.Rows.{Rows, StandsAt, IsVacant}
use Rattle.base_lists.proofs.Places.{get-set_same, get-set_other, get-set_cases}
use Rattle.base_lists.proofs.Never.{none_some}
use Rattle.log_entries.proofs.RowLemmas.{HaveOwnTickets}

-- the ticket whose row is in no place at a stage
abbrev pub loose_ticket : Stage → Option ℕ
loose_ticket (placing ticket) = Some ticket
loose_ticket (ending ticket) = Some ticket
loose_ticket (freed_by_failure ticket server) = Some ticket
loose_ticket stage = None

-- a ticket's row is in no place
pub record IsLoose (rows : Rows) (ticket : ℕ) : Type 0 where
  pub row : Row
  pub place : ℕ
  pub stands : StandsAt rows place row
  pub named : row.key.ticket ≡ ticket
  pub loose : row.phase ≡ Loose

pub record IsConsistent (rows : Rows) (last : ℕ) (stage : Stage) : Type 0 where
  pub tickets : HaveOwnTickets rows
  pub below : (place : ℕ) (row : Row) → StandsAt rows place row → row.key.ticket ≤ last
  pub loose : (place : ℕ) (row : Row) → StandsAt rows place row → row.phase ≡ Loose → loose_ticket stage ≡ Some row.key.ticket
  pub owed : (ticket : ℕ) → loose_ticket stage ≡ Some ticket → IsLoose rows ticket

-- a cell has no row, or one of this ticket
abbrev IsOf : ℕ → Option Row → Type 0
IsOf ticket cell = (row : Row) → cell ≡ Some row → row.key.ticket ≡ ticket

-- before a write each row was there, under its ticket
before : (rows : Rows) (p : ℕ) (r : Row) (cell : Option Row) → StandsAt rows p r → IsOf r.key.ticket cell → (k : ℕ) (u : Row) → StandsAt (set rows p cell) k u
    → (w : Row) × StandsAt rows k w × (w.key.ticket ≡ u.key.ticket)
before rows p r cell stands named k u there =
    elim (get-set_cases rows p k (Some r) cell (Some u) stands there) [
      | inl e ↦ (r, subst (λ n. StandsAt rows n r) (sym e.0) stands, sym (named u e.1))
      | inr e ↦ (u, e.1, refl)
    ]

-- a write at the place of a row keeps what is said of tickets
write : (rows : Rows) (last : ℕ) (old new : Stage) (p : ℕ) (r : Row) (cell : Option Row) → IsConsistent rows last old → StandsAt rows p r
    → IsOf r.key.ticket cell
    → ((k : ℕ) (u : Row) → StandsAt (set rows p cell) k u → u.phase ≡ Loose → loose_ticket new ≡ Some u.key.ticket)
    → ((t : ℕ) → loose_ticket new ≡ Some t → IsLoose (set rows p cell) t)
    → IsConsistent (set rows p cell) last new
write rows last old new p r cell is stands named loose owed = record {
  tickets = record {
    own = λ k l u v a b e.
        let x = before rows p r cell stands named k u a in
        let y = before rows p r cell stands named l v b in
        is.tickets.own k l x.0 y.0 x.1 y.1 (x.2 ∙ e ∙ sym y.2);
  };
  below = λ k u a. let x = before rows p r cell stands named k u a in subst (λ n. n ≤ last) x.2 (is.below k x.0 x.1);
  loose = loose;
  owed = owed;
}

-- where the same ticket, or none, is in no place at both stages
pub at_stage : (rows : Rows) (last : ℕ) (old new : Stage) → IsConsistent rows last old → loose_ticket old ≡ loose_ticket new → IsConsistent rows last new
at_stage rows last old new is same = record {
  tickets = is.tickets;
  below = is.below;
  loose = λ p r a e. sym same ∙ is.loose p r a e;
  owed = λ t e. is.owed t (same ∙ e);
}

-- the row that was in no place gets one
pub placed : (rows : Rows) (last t p : ℕ) (old new : Stage) (r s : Row) → IsConsistent rows last old → loose_ticket old ≡ Some t → loose_ticket new ≡ None
    → StandsAt rows p r → r.key.ticket ≡ t → s.key.ticket ≡ r.key.ticket → s.phase ≢ Loose → IsConsistent (set rows p (Some s)) last new
placed rows last t p old new r s is one none stands named same firm =
    write rows last old new p r (Some s) is stands (λ u e. ap (λ (x : Row). x.key.ticket) (sym (same_Some s u e)) ∙ same)
    (λ k u there loose.
    elim (get-set_cases rows p k (Some r) (Some s) (Some u) stands there) [
      | inl e ↦ absurd (firm (ap (λ (x : Row). x.phase) (same_Some s u e.1) ∙ loose))
      | inr e ↦ absurd (e.0 (is.tickets.own k p u r e.1 stands (same_Some u.key.ticket t (sym (is.loose k u e.1 loose) ∙ one) ∙ sym named)))
    ])
    (λ t e. none_some (sym none ∙ e))

-- a row that has a place changes and keeps one
pub moved : (rows : Rows) (last p : ℕ) (old new : Stage) (r s : Row) → IsConsistent rows last old → loose_ticket old ≡ loose_ticket new → StandsAt rows p r
    → s.key.ticket ≡ r.key.ticket → r.phase ≢ Loose → s.phase ≢ Loose → IsConsistent (set rows p (Some s)) last new
moved rows last p old new r s is stay stands same was firm =
    write rows last old new p r (Some s) is stands (λ u e. ap (λ (x : Row). x.key.ticket) (sym (same_Some s u e)) ∙ same)
    (λ k u there loose.
    elim (get-set_cases rows p k (Some r) (Some s) (Some u) stands there) [
      | inl e ↦ absurd (firm (ap (λ (x : Row). x.phase) (same_Some s u e.1) ∙ loose))
      | inr e ↦ sym stay ∙ is.loose k u e.1 loose
    ])
    (λ t e.
    let it = is.owed t (stay ∙ e) in
    let other : it.place ≢ p = λ here. was (ap (λ (x : Row). x.phase)
    (same_Some r it.row (same_Some (Some r) (Some it.row) (sym stands ∙ subst (λ k. StandsAt rows k it.row) here it.stands))) ∙ it.loose) in
    record { row = it.row; place = it.place; stands = get-set_other rows p it.place (Some s) other ∙ it.stands; named = it.named; loose = it.loose })

-- a row loses its slot
pub loosened : (rows : Rows) (last t p : ℕ) (old new : Stage) (r s : Row) → IsConsistent rows last old → loose_ticket old ≡ None → loose_ticket new ≡ Some t
    → StandsAt rows p r → r.key.ticket ≡ t → s.key.ticket ≡ r.key.ticket → s.phase ≡ Loose → IsConsistent (set rows p (Some s)) last new
loosened rows last t p old new r s is none one stands named same loose =
    write rows last old new p r (Some s) is stands (λ u e. ap (λ (x : Row). x.key.ticket) (sym (same_Some s u e)) ∙ same)
    (λ k u there free.
    elim (get-set_cases rows p k (Some r) (Some s) (Some u) stands there) [
      | inl e ↦ one ∙ ap Some (sym named ∙ sym same ∙ ap (λ (x : Row). x.key.ticket) (same_Some s u e.1))
      | inr e ↦ none_some (sym none ∙ is.loose k u e.1 free)
    ])
    (λ other e. record {
      row = s;
      place = p;
      stands = get-set_same rows p (Some r) (Some s) stands;
      named = same ∙ named ∙ same_Some t other (sym one ∙ e);
      loose = loose;
    })

-- a row that is in no place goes
pub removed : (rows : Rows) (last t p : ℕ) (old new : Stage) (r : Row) → IsConsistent rows last old → loose_ticket old ≡ Some t → loose_ticket new ≡ None
    → StandsAt rows p r → r.key.ticket ≡ t → IsConsistent (set rows p None) last new
removed rows last t p old new r is one none stands named =
    write rows last old new p r None is stands (λ u e. none_some e)
    (λ k u there loose.
    elim (get-set_cases rows p k (Some r) None (Some u) stands there) [
      | inl e ↦ none_some e.1
      | inr e ↦ absurd (e.0 (is.tickets.own k p u r e.1 stands (same_Some u.key.ticket t (sym (is.loose k u e.1 loose) ∙ one) ∙ sym named)))
    ])
    (λ t e. none_some (sym none ∙ e))

-- a row that is told goes
pub dismissed : (rows : Rows) (last p : ℕ) (old new : Stage) (r : Row) → IsConsistent rows last old → loose_ticket old ≡ None → loose_ticket new ≡ None
    → StandsAt rows p r → IsConsistent (set rows p None) last new
dismissed rows last p old new r is free none stands =
    write rows last old new p r None is stands (λ u e. none_some e)
    (λ k u there loose.
    elim (get-set_cases rows p k (Some r) None (Some u) stands there) [
      | inl e ↦ none_some e.1
      | inr e ↦ none_some (sym free ∙ is.loose k u e.1 loose)
    ])
    (λ t e. none_some (sym none ∙ e))

-- a row comes under the next ticket
pub admitted : (rows : Rows) (last p : ℕ) (old : Stage) (s : Row) → IsConsistent rows last old → loose_ticket old ≡ None → IsVacant rows p
    → s.key.ticket ≡ last + 1 → s.phase ≡ Loose → IsConsistent (set rows p (Some s)) s.key.ticket (placing s.key.ticket)
admitted rows last p old s is none vacant next loose = record {
  tickets = record {
    own = λ k l u v a b e.
        elim (get-set_cases rows p k None (Some s) (Some u) vacant a) [
          | inl x ↦ elim (get-set_cases rows p l None (Some s) (Some v) vacant b) [
            | inl y ↦ x.0 ∙ sym y.0
            | inr y ↦ absurd (older l v y.1 (ap (λ (w : Row). w.key.ticket) (same_Some s u x.1) ∙ e))
          ]
          | inr x ↦ elim (get-set_cases rows p l None (Some s) (Some v) vacant b) [
            | inl y ↦ absurd (older k u x.1 (ap (λ (w : Row). w.key.ticket) (same_Some s v y.1) ∙ sym e))
            | inr y ↦ is.tickets.own k l u v x.1 y.1 e
          ]
        ];
  };
  below = λ k u a.
      elim (get-set_cases rows p k None (Some s) (Some u) vacant a) [
        | inl x ↦ let e : s.key.ticket ≡ u.key.ticket = ap (λ (w : Row). w.key.ticket) (same_Some s u x.1) in omega arith
        | inr x ↦ let h : u.key.ticket ≤ last = is.below k u x.1 in omega arith
      ];
  loose = λ k u a free.
      elim (get-set_cases rows p k None (Some s) (Some u) vacant a) [
        | inl x ↦ ap (λ (w : Row). Some w.key.ticket) (same_Some s u x.1)
        | inr x ↦ none_some (sym none ∙ is.loose k u x.1 free)
      ];
  owed = λ t e. record { row = s; place = p; stands = get-set_same rows p None (Some s) vacant; named = same_Some s.key.ticket t e; loose = loose };
}
  where
    older : (k : ℕ) (u : Row) → StandsAt rows k u → s.key.ticket ≢ u.key.ticket
    older k u there e = let h : u.key.ticket ≤ last = is.below k u there in absurd (omega arith)
