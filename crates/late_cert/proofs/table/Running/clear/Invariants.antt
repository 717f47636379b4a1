use Rattle.std.proofs.Common.{◌≡◌, ℕ, ◌<◌, None, is_some}
use Rattle.std.specs.Option.{option_and_then}
use Rattle.log_entries.specs.declared.queue.Queue.{Queue}
use Rattle.late_cert.specs.Table.{row_at, worst_of}
use Rattle.late_cert.proofs.table.Running.clear.Given as goal

abbrev pub invariant-loop-at : goal.invariant-loop-at
invariant-loop-at l = record {
  servers : l.self.servers ≡ l.initial.self.servers;
  room : (place : ℕ) → is_some (row_at l.self.table.items place) ≡ is_some (row_at l.initial.self.table.items place);
  cleared : (place : ℕ) (queue : Queue) → place < l.at → option_and_then (λ row. worst_of row queue) (row_at l.self.table.items place) ≡ None;
}
