-- The exit status of a program.
use Rattle.std.specs.Prelude.{ℕ, Result, Ok, Err}
use Rattle.replay.specs.declared.fault.Fault.{Fault}
use Rattle.replay.specs.declared.fault.Fault.TheVariants.{NoMemory, Script, Read, Write}

-- 0; 1 where memory is refused, or a read or a write failed; 5 where the script is faulty
abbrev pub status_of : Result (Unit {0}) Fault → ℕ
status_of (Ok done) = 0
status_of (Err NoMemory) = 1
status_of (Err (Script line)) = 5
status_of (Err Read) = 1
status_of (Err Write) = 1
