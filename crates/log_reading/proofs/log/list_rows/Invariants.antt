use Rattle.std.proofs.Common.{◌≡◌, ◌≤◌, length, take, vec_capacity}
use Rattle.log_reading.specs.Windows.{base_rows}
use Rattle.log_reading.proofs.log.list_rows.Given as goal

-- the rows so far
abbrev pub invariant-loop-row : goal.invariant-loop-row
invariant-loop-row l = record {
  so_far : l.list.items ≡ base_rows (take l.row-index l.rows);
  room : vec_capacity l.list ≡ vec_capacity l.fn.list;
  fits : length l.rows ≤ vec_capacity l.fn.list;
}
