use Rattle.std.proofs.Common.{◌≡◌, length, take}
use Rattle.log_reading.specs.Index.{IsIndexOf}
use Rattle.log_reading.specs.Readable.{IsReadable}
use Rattle.log_reading.specs.Windows.{base_rows}
use Rattle.log_reading.proofs.log.Log.read.Given as goal

abbrev pub invariant-loop-entry : goal.invariant-loop-entry
invariant-loop-entry l = record {
  log : l.log ≡ record { base = l.fn.base; entries = take l.entry-index l.entries; room = length l.entries };
  indexed : IsIndexOf (base_rows l.fn.base.rows) (take l.entry-index l.entries) l.index;
  readable : IsReadable (record { base = base_rows l.fn.base.rows; entries = take l.entry-index l.entries });
}
