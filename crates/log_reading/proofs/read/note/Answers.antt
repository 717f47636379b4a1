use Rattle.std.proofs.Common.{◌≡◌, ◌++◌, ◌∷◌, [], Some, cond, is_eq, refl, ap, sym, subst}
use Rattle.std.specs.BTreeMap.{get}
use Rattle.std.specs.Ordering.{nat_cmp}
use Rattle.log_entries.specs.declared.entry.Entry.{Entry}
use Rattle.log_reading.specs.Grants.{arrival_in, joining_in}
use Rattle.log_reading.specs.Index.{IsIndexOf}
use Rattle.log_reading.specs.declared.read.Index.{Index}
use Rattle.log_reading.proofs.Indexed.{index_arrival, index_same, joining_indexed, not_arrival, not_joining}
use Rattle.log_reading.proofs.read.note.Goals as goal

pub returns-in_ok-insert-in-Arrive : goal.returns-in_ok-insert-in-Arrive
returns-in_ok-insert-in-Arrive c = λ base log long is.
    let a = c.in-Arrive.arrival in
    let old = c.args.index.now in
    let new : Index = record { keys = c.insert.new.self; joinings = old.joinings } in
    subst (λ (e : Entry). IsIndexOf base (log ++ e ∷ []) new) (sym c.in-Arrive.is)
    (index_arrival base log c.in-Arrive.field-0 a old new is refl
    (λ t. subst (λ k. get nat_cmp new.keys t ≡ cond (is_eq (nat_cmp a.ticket t)) (Some k) (get nat_cmp old.keys t)) c.key.ensures
    (c.in_ok-insert-in-Arrive.ensures.updates.0 t)))

pub returns-in-Joined : goal.returns-in-Joined
returns-in-Joined c = joining_indexed _ _ _ _ c.args.entry.now _ _ (ap arrival_in c.in-Joined.is) (ap joining_in c.in-Joined.is) c.note_joining.ensures

pub returns-in-Moved : goal.returns-in-Moved
returns-in-Moved c = joining_indexed _ _ _ _ c.args.entry.now _ _ (ap arrival_in c.in-Moved.is) (ap joining_in c.in-Moved.is) c.note_joining-in-Moved.ensures

pub returns-in_default : goal.returns-in_default
returns-in_default c = λ base log long is.
    index_same base log c.args.entry.now c.args.index.now (not_arrival c.args.entry.now c.in_default.not-Arrive)
    (not_joining c.args.entry.now c.in_default.not-Joined c.in_default.not-Moved) is
