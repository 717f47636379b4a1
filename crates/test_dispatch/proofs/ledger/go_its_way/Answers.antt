use Rattle.std.proofs.Common.{ap}
use Rattle.slot_ledger.specs.Ledgers.{Kept}
use Rattle.slot_ledger.proofs.Standing.{still_stands, put_stands, admitted_stands}
use Rattle.test_dispatch.proofs.ledger.go_its_way.Goals as goal

pub loosen-requires : goal.loosen-requires
loosen-requires g c = (_, put_stands _ _ _ _ c.admit-place.ensures.vacant (ap (λ (k : Kept _). k.cells) c.admit-place.ensures.admitted))

pub wait-node-requires-clause-row : goal.wait-node-requires-clause-row
wait-node-requires-clause-row g c = admitted_stands _ _ _ _ _ _ c.admit-place.ensures.vacant (ap (λ (k : Kept _). k.cells) c.admit-place.ensures.admitted)
    (ap (λ (k : Kept _). k.cells) c.loosen.ensures)

pub row-requires : goal.row-requires
row-requires g c =
    let admitted = admitted_stands _ _ _ _ _ _ c.admit-place.ensures.vacant (ap (λ (k : Kept _). k.cells) c.admit-place.ensures.admitted)
    (ap (λ (k : Kept _). k.cells) c.loosen.ensures) in
    still_stands _ _ _ _ (admitted.0, admitted.2) (ap (λ (k : Kept _). k.cells) c.wait-node.ensures.waiting)

pub serve-requires-clause-row : goal.serve-requires-clause-row
serve-requires-clause-row g c =
    let admitted = admitted_stands _ _ _ _ _ _ c.admit-place.ensures.vacant (ap (λ (k : Kept _). k.cells) c.admit-place.ensures.admitted)
    (ap (λ (k : Kept _). k.cells) c.loosen.ensures) in
    let waits = still_stands _ _ _ _ (admitted.0, admitted.2) (ap (λ (k : Kept _). k.cells) c.wait-node.ensures.waiting) in
    still_stands _ _ _ _ waits (ap (λ (k : Kept _). k.cells) c.loosen-2.ensures)

pub free-requires : goal.free-requires
free-requires g c =
    let admitted = admitted_stands _ _ _ _ _ _ c.admit-place.ensures.vacant (ap (λ (k : Kept _). k.cells) c.admit-place.ensures.admitted)
    (ap (λ (k : Kept _). k.cells) c.loosen.ensures) in
    let waits = still_stands _ _ _ _ (admitted.0, admitted.2) (ap (λ (k : Kept _). k.cells) c.wait-node.ensures.waiting) in
    let loose = still_stands _ _ _ _ waits (ap (λ (k : Kept _). k.cells) c.loosen-2.ensures) in
    still_stands _ _ _ _ loose (ap (λ (k : Kept _). k.cells) c.serve.ensures)

pub row-requires-2 : goal.row-requires-2
row-requires-2 g c =
    let admitted = admitted_stands _ _ _ _ _ _ c.admit-place.ensures.vacant (ap (λ (k : Kept _). k.cells) c.admit-place.ensures.admitted)
    (ap (λ (k : Kept _). k.cells) c.loosen.ensures) in
    let waits = still_stands _ _ _ _ (admitted.0, admitted.2) (ap (λ (k : Kept _). k.cells) c.wait-node.ensures.waiting) in
    let loose = still_stands _ _ _ _ waits (ap (λ (k : Kept _). k.cells) c.loosen-2.ensures) in
    let serves = still_stands _ _ _ _ loose (ap (λ (k : Kept _). k.cells) c.serve.ensures) in
    still_stands _ _ _ _ serves (ap (λ (k : Kept _). k.cells) c.free.ensures)

pub row-requires-3 : goal.row-requires-3
row-requires-3 g c =
    let admitted = admitted_stands _ _ _ _ _ _ c.admit-place.ensures.vacant (ap (λ (k : Kept _). k.cells) c.admit-place.ensures.admitted)
    (ap (λ (k : Kept _). k.cells) c.loosen.ensures) in
    let waits = still_stands _ _ _ _ (admitted.0, admitted.2) (ap (λ (k : Kept _). k.cells) c.wait-node.ensures.waiting) in
    let loose = still_stands _ _ _ _ waits (ap (λ (k : Kept _). k.cells) c.loosen-2.ensures) in
    let serves = still_stands _ _ _ _ loose (ap (λ (k : Kept _). k.cells) c.serve.ensures) in
    let freed = still_stands _ _ _ _ serves (ap (λ (k : Kept _). k.cells) c.free.ensures) in
    still_stands _ _ _ _ freed (ap (λ (k : Kept _). k.cells) c.tell.ensures)
