use Rattle.std.proofs.Common.{ℕ, refl, sym, ◌∙◌, subst}
use Rattle.std.specs.declared.cmp.Ordering.{Ordering}
use Rattle.log_entries.specs.declared.queue.Queue.{Queue}
use Rattle.log_reading.specs.Index.{wait_cmp}
use Rattle.log_reading.specs.declared.read.Index.{Index}
use Rattle.log_reading.proofs.Indexed.{index_row, wait_order, IsPutAt}
use Rattle.base_lists.proofs.Never.{none_some}
use Rattle.std.proofs.lemmas.Option.{same_Some}
use Rattle.log_reading.proofs.read.note_row.Goals as goal

pub returns-in_ok-insert-2 : goal.returns-in_ok-insert-2
returns-in_ok-insert-2 c = λ base is.
    let old = c.args.index.now in
    let row = c.args.row in
    let new : Index = record { keys = c.insert.new.self; joinings = c.insert-in-Some.new.self } in
    index_row base row old new is (λ t. c.in_ok-insert.ensures.updates.0 t) (λ none. none_some (sym none ∙ c.in-Some.is))
    (λ p at.
    subst (λ (q : Queue). IsPutAt wait_cmp old new row.ticket q 0) (same_Some c.in-Some.queue p (sym c.in-Some.is ∙ at))
    (subst (λ (cmp : ℕ × Queue → ℕ × Queue → Ordering). IsPutAt cmp old new row.ticket c.in-Some.queue 0) wait_order
    (λ w. c.in_ok-insert-2.ensures.updates.0 w)))

pub returns-in_default : goal.returns-in_default
returns-in_default c = λ base is.
    let old = c.args.index.now in
    let new : Index = record { keys = c.insert.new.self; joinings = old.joinings } in
    index_row base c.args.row old new is (λ t. c.in_ok-insert.ensures.updates.0 t) (λ none. refl) (λ p at. none_some (sym c.in_default.is ∙ at))
