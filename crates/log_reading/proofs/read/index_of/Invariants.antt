use Rattle.std.proofs.Common.{[], take}
use Rattle.log_reading.specs.Index.{IsIndexOf}
use Rattle.log_reading.proofs.read.index_of.Given as goal

-- what is known of the rows so far
abbrev pub invariant-loop-row : goal.invariant-loop-row
invariant-loop-row l = record {
  indexed : IsIndexOf (take l.row-index l.base) [] l.index;
}
