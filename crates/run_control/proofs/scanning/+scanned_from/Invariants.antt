use Rattle.std.proofs.Common.{length}
use Rattle.run_control.proofs.scanning.+scanned_from.Given as goal

abbrev pub decreases-scanned_from : goal.decreases-scanned_from
decreases-scanned_from l = length l.bytes.now
