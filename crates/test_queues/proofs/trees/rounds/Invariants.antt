use Rattle.std.proofs.Common.{◌≡◌, []}
use Rattle.test_queues.proofs.trees.rounds.Given as goal

abbrev pub invariant-loop : goal.invariant-loop
invariant-loop g l = record {
  room : g.Q.PendQueue.room l.queue ≡ 1000;
  other_room : g.Q.PendQueue.room l.other ≡ 1000;
  empty : g.Q.PendQueue.pairs l.queue ≡ [];
  other_empty : g.Q.PendQueue.pairs l.other ≡ [];
}
