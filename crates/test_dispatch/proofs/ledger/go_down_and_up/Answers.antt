use Rattle.std.proofs.Common.{List, Option, refl, ap, sym, subst, arith}
use Rattle.slot_ledger.specs.declared.places.Cell.{Cell}
use Rattle.slot_ledger.specs.Ledgers.{Kept}
use Rattle.slot_ledger.specs.Cells.{HasRow}
use Rattle.slot_ledger.proofs.Standing.{put_stands, changed_stands, still_stands}
use Rattle.test_dispatch.proofs.ledger.go_down_and_up.Goals as goal

pub loosen-requires : goal.loosen-requires
loosen-requires g c = (_, put_stands _ _ _ _ c.admit-place.ensures.vacant (ap (λ (k : Kept _). k.cells) c.admit-place.ensures.admitted))

pub fail-requires : goal.fail-requires
fail-requires g c =
    let put = put_stands _ _ _ _ c.admit-place.ensures.vacant (ap (λ (k : Kept _). k.cells) c.admit-place.ensures.admitted) in
    let admitted = changed_stands _ _ _ _ _ put (ap (λ (k : Kept _). k.cells) c.loosen.ensures) in
    (_, admitted, omega (arith, c.row_of.ensures.failures))

pub row-requires : goal.row-requires
row-requires g c =
    let put = put_stands _ _ _ _ c.admit-place.ensures.vacant (ap (λ (k : Kept _). k.cells) c.admit-place.ensures.admitted) in
    let admitted = changed_stands _ _ _ _ _ put (ap (λ (k : Kept _). k.cells) c.loosen.ensures) in
    let failed = changed_stands _ _ _ _ _ admitted (ap (λ (k : Kept _). k.cells) c.fail.ensures) in
    (_, failed)

pub wait-requires-clause-row : goal.wait-requires-clause-row
wait-requires-clause-row g c =
    let put = put_stands _ _ _ _ c.admit-place.ensures.vacant (ap (λ (k : Kept _). k.cells) c.admit-place.ensures.admitted) in
    let admitted = changed_stands _ _ _ _ _ put (ap (λ (k : Kept _). k.cells) c.loosen.ensures) in
    let failed = changed_stands _ _ _ _ _ admitted (ap (λ (k : Kept _). k.cells) c.fail.ensures) in
    (_, _, failed, refl)

pub shift-requires : goal.shift-requires
shift-requires g c =
    let put = put_stands _ _ _ _ c.admit-place.ensures.vacant (ap (λ (k : Kept _). k.cells) c.admit-place.ensures.admitted) in
    let admitted = changed_stands _ _ _ _ _ put (ap (λ (k : Kept _). k.cells) c.loosen.ensures) in
    let failed = changed_stands _ _ _ _ _ admitted (ap (λ (k : Kept _). k.cells) c.fail.ensures) in
    let waits = still_stands _ _ _ _ (_, failed) (ap (λ (k : Kept _). k.cells) c.wait.ensures.waiting) in
    let down = subst (λ (l : List (Option (Cell _))). HasRow l c.admit-place.result) (sym (ap (λ (k : Kept _). k.cells) c.set_up.ensures)) waits in
    down

pub unpin-requires : goal.unpin-requires
unpin-requires g c =
    let put = put_stands _ _ _ _ c.admit-place.ensures.vacant (ap (λ (k : Kept _). k.cells) c.admit-place.ensures.admitted) in
    let admitted = changed_stands _ _ _ _ _ put (ap (λ (k : Kept _). k.cells) c.loosen.ensures) in
    let failed = changed_stands _ _ _ _ _ admitted (ap (λ (k : Kept _). k.cells) c.fail.ensures) in
    let waits = still_stands _ _ _ _ (_, failed) (ap (λ (k : Kept _). k.cells) c.wait.ensures.waiting) in
    let down = subst (λ (l : List (Option (Cell _))). HasRow l c.admit-place.result) (sym (ap (λ (k : Kept _). k.cells) c.set_up.ensures)) waits in
    let moved = still_stands _ _ _ _ down (ap (λ (k : Kept _). k.cells) c.shift.ensures) in
    moved

pub row-requires-2 : goal.row-requires-2
row-requires-2 g c =
    let put = put_stands _ _ _ _ c.admit-place.ensures.vacant (ap (λ (k : Kept _). k.cells) c.admit-place.ensures.admitted) in
    let admitted = changed_stands _ _ _ _ _ put (ap (λ (k : Kept _). k.cells) c.loosen.ensures) in
    let failed = changed_stands _ _ _ _ _ admitted (ap (λ (k : Kept _). k.cells) c.fail.ensures) in
    let waits = still_stands _ _ _ _ (_, failed) (ap (λ (k : Kept _). k.cells) c.wait.ensures.waiting) in
    let down = subst (λ (l : List (Option (Cell _))). HasRow l c.admit-place.result) (sym (ap (λ (k : Kept _). k.cells) c.set_up.ensures)) waits in
    let moved = still_stands _ _ _ _ down (ap (λ (k : Kept _). k.cells) c.shift.ensures) in
    let loose = still_stands _ _ _ _ moved (ap (λ (k : Kept _). k.cells) c.unpin.ensures) in
    loose
