use Rattle.std.proofs.Common.{◌≡◌}
use Rattle.queue_waits.specs.Lines.{lines_of, fallen}
use Rattle.queue_waits.proofs.falls.settle.Given as goal

-- this many of the moved requests have left the queue
abbrev pub invariant-loop-at : goal.invariant-loop-at
invariant-loop-at g l = record {
  moved : lines_of l.queues ≡ fallen (lines_of l.initial.queues) l.initial.fall.server l.at;
  fall : l.fall ≡ l.initial.fall;
  links : l.queues.links ≡ l.initial.queues.links;
  all_links : l.initial.fall.told ≡ 0 → l.queues.all_links ≡ l.initial.queues.all_links;
}
