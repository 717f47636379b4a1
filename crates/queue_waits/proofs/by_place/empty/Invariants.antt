use Rattle.std.proofs.Common.{◌≡◌, None, replicate, vec_capacity}
use Rattle.queue_waits.proofs.by_place.empty.Given as goal

-- the empty cells so far
abbrev pub invariant-loop-cell : goal.invariant-loop-cell
invariant-loop-cell g l = (l.made.items ≡ replicate l.cell None) × (vec_capacity l.made ≡ l.cells)
