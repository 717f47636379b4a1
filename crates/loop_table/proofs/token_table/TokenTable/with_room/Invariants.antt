use Rattle.std.proofs.Common.{◌≡◌, replicate, vec_capacity}
use Rattle.loop_table.specs.TokenTables.{below}
use Rattle.loop_table.proofs.token_table.TokenTable.with_room.Given as goal

-- the free cells so far
abbrev pub invariant-loop-index : goal.invariant-loop-index
invariant-loop-index g l = record {
  places : l.free.places ≡ below l.index;
  room : l.free.room ≡ l.room;
  generations : l.generations.items ≡ replicate l.index 0;
  capacity : vec_capacity l.generations ≡ l.room;
}
