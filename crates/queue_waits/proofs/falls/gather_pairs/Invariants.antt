use Rattle.std.proofs.Common.{◌≡◌, ◌≤◌, take, vec_len, vec_capacity}
use Rattle.log_entries.specs.declared.queue.Queue.TheVariants.{Server}
use Rattle.queue_waits.specs.InQueues.{pairs_in}
use Rattle.queue_waits.proofs.falls.gather_pairs.Given as goal

-- those of the places so far
abbrev pub invariant-loop-place : goal.invariant-loop-place
invariant-loop-place l = record {
  pairs : l.pairs.items ≡ pairs_in (Server l.server) 0 (take l.place l.waiters);
  count : vec_len l.pairs ≤ l.place;
  capacity : vec_capacity l.pairs ≡ vec_capacity l.initial.pairs;
}
