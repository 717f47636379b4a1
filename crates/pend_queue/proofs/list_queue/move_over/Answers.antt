use Rattle.std.proofs.Common.{◌≡◌, ◌∷◌, reverse, ap, ◌∙◌, arith}
use Rattle.pend_queue.proofs.Inserted.{IsAscending-inserted}
use Rattle.pend_queue.proofs.Merged.{apart-inserted, merged-inserted}
use Rattle.base_lists.proofs.Reversed.{reverse-push}
use Rattle.pend_queue.proofs.list_queue.move_over.Goals as goal

-- the least pair of what is left is put in
pub moving-preserved : goal.moving-preserved
moving-preserved g c =
    let order = g.met.K.Ord.total in
    let pairs = reverse c.moving.items.items in
    let rest = reverse c.pop.new.self.items in
    let least_first : reverse c.moving.more.items ≡ c.in-Some.pair ∷ rest = ap reverse c.in-Some.ensures.items
    ∙ reverse-push c.pop.new.self.items c.in-Some.pair in
    let more_ascending = rw least_first at c.moving.invariant.more_ascending in
    let apart = rw least_first at c.moving.invariant.apart in
    let same = rw least_first at c.moving.invariant.same in
    record {
      ascending = rw c.put.ensures.items (IsAscending-inserted order c.in-Some.pair pairs c.moving.invariant.ascending);
      more_ascending = more_ascending.1;
      apart = rw c.put.ensures.items (apart-inserted order pairs c.in-Some.pair rest more_ascending apart);
      same = rw c.put.ensures.items (merged-inserted order pairs c.in-Some.pair rest c.moving.invariant.ascending more_ascending apart ∙ same);
      room = omega (arith, c.in-Some.ensures.cases);
      capacity = c.put.ensures.capacity ∙ c.moving.invariant.capacity;
      more_capacity = c.in-Some.ensures.capacity ∙ c.moving.invariant.more_capacity;
    }
