use Rattle.std.proofs.Common.{ℕ, ◌+◌, length, refl, subst}
use Rattle.std.specs.declared.cmp.Ordering.{Ordering}
use Rattle.log_entries.specs.declared.queue.Queue.{Queue}
use Rattle.log_reading.specs.Index.{wait_cmp}
use Rattle.log_reading.specs.declared.read.Index.{Index}
use Rattle.log_reading.proofs.Indexed.{index_joined, wait_order, IsPutAt}
use Rattle.log_reading.proofs.read.note_joining.Goals as goal

pub returns : goal.returns
returns c = λ base log entry long no_arrival begins is.
    let t = c.args.ticket in
    let q = c.args.queue in
    let old = c.args.index.now in
    let new : Index = record { keys = old.keys; joinings = c.insert.new.self } in
    let updated : IsPutAt wait_cmp old new t q c.args.position =
    subst (λ (cmp : ℕ × Queue → ℕ × Queue → Ordering). IsPutAt cmp old new t q c.args.position) wait_order (λ w. c.in_ok-insert.ensures.updates.0 w) in
    let placed : IsPutAt wait_cmp old new t q (length log + 1) = subst (λ (n : ℕ). IsPutAt wait_cmp old new t q n) long updated in
    index_joined base log entry t q old new is no_arrival begins refl placed
