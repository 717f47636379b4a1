use Rattle.std.proofs.Common.{◌≡◌, ◌<◌, ℕ, length, get_or, vec_capacity}
use Rattle.queue_waits.proofs.order.JoinOrder.with_room.Given as goal

-- the cells so far, each leading to itself
abbrev pub invariant-loop-cell : goal.invariant-loop-cell
invariant-loop-cell l = record {
  next_cells : length l.next.items ≡ l.cell;
  previous_cells : length l.previous.items ≡ l.cell;
  next_room : vec_capacity l.next ≡ l.cells;
  previous_room : vec_capacity l.previous ≡ l.cells;
  leads : (cell : ℕ) → cell < l.cell → get_or l.next.items cell 0 ≡ cell;
  leads_back : (cell : ℕ) → cell < l.cell → get_or l.previous.items cell 0 ≡ cell;
}
