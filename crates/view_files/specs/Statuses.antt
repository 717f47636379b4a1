-- The exit status of a program.
use Rattle.std.specs.Prelude.{ℕ}
use Rattle.view_files.specs.declared.input.InputFault.{InputFault}
use Rattle.view_files.specs.declared.input.InputFault.TheVariants.{NoMemory, Unread, Unwritten, Script, Trace}

-- 1 where memory is refused, or a read or a write failed; 5 where the script or the trace is faulty
abbrev pub status_of : InputFault → ℕ
status_of NoMemory = 1
status_of Unread = 1
status_of Unwritten = 1
status_of (Script line) = 5
status_of (Trace line cause) = 5
