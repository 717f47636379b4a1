use Rattle.std.proofs.Common.{◌≡◌, vec_len}
use Rattle.loop_shared.proofs.parked_cells.empty_cells.Given as goal

-- a cell for each place so far
abbrev pub invariant-loop : goal.invariant-loop
invariant-loop l = vec_len l.cells ≡ l.counter
