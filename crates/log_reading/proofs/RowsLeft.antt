-- What the rows of a state have, that a log leaves.
use Rattle.std.proofs.Common.{◌≡◌, ◌||◌, Bool, true, false, List, [], ◌∷◌, ◌++◌, IsTrue, refl, sym, ◌∙◌, subst, append_assoc, inl, inr}
use Rattle.std.proofs.lemmas.List.{append-nil}
use Rattle.due_key.specs.declared.key.Key.{Key}
use Rattle.log_entries.specs.declared.entry.Entry.{Entry}
use Rattle.log_entries.specs.declared.row.Row.{Row}
use Rattle.log_entries.specs.declared.setup.Setup.{Setup}
use Rattle.log_entries.specs.Rows.{phase_waits_in}
use Rattle.log_entries.specs.States.{State, after, after_all}
use Rattle.log_reading.specs.Grants.{joins, has_joined}
use Rattle.log_reading.specs.declared.base.BaseRow.{BaseRow}
use Rattle.log_reading.specs.Ordered.{AllKeepOrder, HaveArrived, HaveJoined}
use Rattle.log_reading.proofs.Back.{WasThere, origin, have_arrived_after, loose_nowhere}
use Rattle.log_reading.proofs.Joinings.{joined-push}

pub have_joined_after : (base : List BaseRow) (setup : Setup) (past : List Entry) (s : State) (e : Entry) → HaveJoined base past s.rows
    → HaveJoined base (past ++ e ∷ []) (after setup s e).rows
have_joined_after base setup past s e have r q live waits =
    elim (origin setup s e live.0 r live.1) [
      | inl came ↦ absurd (loose_nowhere q (subst (λ (x : Row). IsTrue (phase_waits_in q x.phase)) came.row waits))
      | inr was ↦ joined-push base r.key.ticket q past e ∙ go was (joins r.key.ticket q e) refl
    ]
  where
    go : WasThere s.rows e live.0 r → (b : Bool) → joins r.key.ticket q e ≡ b → b || has_joined base r.key.ticket q past ≡ true
    go was true is = refl
    go was false is = subst (λ (k : Key). IsTrue (has_joined base k.ticket q past)) was.key (have was.row q (live.0, was.stands) (was.waited q waits is))

pub arrived_from : (base : List BaseRow) (setup : Setup) (past es : List Entry) (s : State) → HaveArrived base past s.rows → AllKeepOrder setup s es
    → HaveArrived base (past ++ es) (after_all setup s es).rows
arrived_from base setup past [] s have keep = subst (λ l. HaveArrived base l s.rows) (sym (append-nil past)) have
arrived_from base setup past (e ∷ es) s have keep =
    subst (λ l. HaveArrived base l (after_all setup (after setup s e) es).rows) (append_assoc past (e ∷ []) es)
    (arrived_from base setup (past ++ e ∷ []) es (after setup s e) (have_arrived_after base setup past s e have keep.0) keep.1)

pub joined_from : (base : List BaseRow) (setup : Setup) (past es : List Entry) (s : State) → HaveJoined base past s.rows
    → HaveJoined base (past ++ es) (after_all setup s es).rows
joined_from base setup past [] s have = subst (λ l. HaveJoined base l s.rows) (sym (append-nil past)) have
joined_from base setup past (e ∷ es) s have =
    subst (λ l. HaveJoined base l (after_all setup (after setup s e) es).rows) (append_assoc past (e ∷ []) es)
    (joined_from base setup (past ++ e ∷ []) es (after setup s e) (have_joined_after base setup past s e have))

pub rows_arrived : (base : List BaseRow) (setup : Setup) (start : State) (log : List Entry) → HaveArrived base [] start.rows → AllKeepOrder setup start log
    → HaveArrived base log (after_all setup start log).rows
rows_arrived base setup start log = arrived_from base setup [] log start

pub rows_joined : (base : List BaseRow) (setup : Setup) (start : State) (log : List Entry) → HaveJoined base [] start.rows
    → HaveJoined base log (after_all setup start log).rows
rows_joined base setup start log = joined_from base setup [] log start
