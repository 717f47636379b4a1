use Rattle.std.proofs.Common.{◌≡◌, ℕ, ◌<◌, length, slice_get}
use Rattle.slot_ledger.specs.Cells.{rows_in}
use Rattle.dispatch_state.proofs.windows.save_rows.Given as goal

-- the base has the rows of the places so far
abbrev pub invariant-loop-place : goal.invariant-loop-place
invariant-loop-place g l = record {
  same : l.base ≡ record l.initial.base { rows = l.base.rows };
  long : length l.base.rows ≡ length (rows_in l.ledger.cells);
  saved : (k : ℕ) → k < l.place → slice_get l.base.rows k ≡ slice_get (rows_in l.ledger.cells) k;
}
