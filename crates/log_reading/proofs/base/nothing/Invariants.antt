use Rattle.std.proofs.Common.{◌≡◌, None, replicate, vec_capacity}
use Rattle.log_reading.proofs.base.nothing.Given as goal

abbrev pub invariant-loop : goal.invariant-loop
invariant-loop g l = record {
  so_far : l.list.items ≡ replicate l.counter None;
  room : vec_capacity l.list ≡ l.count;
}
