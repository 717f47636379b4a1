use Rattle.std.proofs.Common.{◌≡◌, ℕ, [], Some, length, map, replicate, slice_get, vec_capacity}
use Rattle.queue_waits.proofs.queues.Queues.new.Given as goal

-- the empty queues so far, each with its room
abbrev pub invariant-loop-server : goal.invariant-loop-server
invariant-loop-server g l = record {
  empty : map g.Q.PendQueue.pairs l.own.items ≡ replicate l.server [];
  rooms : (server its : ℕ) → slice_get (map g.Q.PendQueue.room l.own.items) server ≡ Some its → its ≡ l.places;
  count : length l.own.items ≡ l.server;
  room : vec_capacity l.own ≡ l.servers;
}
