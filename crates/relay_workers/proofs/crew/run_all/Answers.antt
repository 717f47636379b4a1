use Rattle.std.proofs.Common.{◌≤◌, All, length, of_calls, arith}
use Rattle.relay_workers.specs.Seats.{IsUnused}
use Rattle.std.specs.Vec.Iter.{into_iter_items}
use Rattle.relay_workers.proofs.crew.run_all.Goals as goal

pub scoped-requires : goal.scoped-requires
scoped-requires g c =
    let few : length (into_iter_items c.into_iter-members.result) ≤ length c.as_mut_slice-lent.result.now =
    rw c.into_iter-members.ensures.rest (let ok = c.args.crew.ok in omega arith) in
    let unused : All (λ seat. IsUnused g.N.BoardName.terms seat.idle.seat) c.as_mut_slice-lent.result.now = rw c.as_mut_slice-lent.ensures.value c.requires.unused in
    record { at = λ a. (few, (unused, search of_calls)) }
