use Rattle.std.proofs.Common.{◌≡◌, ℕ, List, ◌++◌, drop}
use Rattle.exchange_driver.specs.Meters.{scan_tells}
use Rattle.exchange_driver.proofs.meter.scanned.Given as goal

-- what is told, once the bytes that are left are sent too, is the same
abbrev pub invariant-loop-byte : goal.invariant-loop-byte
invariant-loop-byte l = (more : List ℕ) → scan_tells l.scan (drop l.byte-index l.bytes ++ more) ≡ scan_tells l.fn.scan (l.bytes ++ more)
