use Rattle.std.proofs.Common.{None, ap, ◌∙◌}
use Rattle.std.proofs.Math.ListN.{set}
use Rattle.std.proofs.lemmas.List.{set-set}
use Rattle.slot_ledger.specs.Ledgers.{Kept, with_cells}
use Rattle.slot_ledger.proofs.Standing.{put_stands}
use Rattle.base_lists.proofs.Places.{set_read}
use Rattle.test_dispatch.proofs.ledger.pass.Goals as goal

pub end-requires : goal.end-requires
end-requires g c = (_, put_stands _ _ _ _ c.admit-place.ensures.vacant (ap (λ (k : Kept _). k.cells) c.admit-place.ensures.admitted))

-- the place is free again
pub returns : goal.returns
returns g c =
    let place = c.admit-place.result in
    let old = c.args.ledger.now in
    c.end.ensures
    ∙ ap (λ (k : Kept _). with_cells k (set k.cells place None)) c.admit-place.ensures.admitted
    ∙ ap (with_cells old) (set-set old.cells place _ None ∙ set_read old.cells place None c.admit-place.ensures.vacant)
