-- Why a service ends.
use Rattle.run_parts.specs.declared.fault.ServeFault.{ServeFault}
use Rattle.run_parts.specs.declared.fault.ServeFault.TheVariants.{NoMemory, Write}
use Rattle.run_windows.specs.declared.printed.PrintFault.{PrintFault}
use Rattle.run_windows.specs.declared.printed.PrintFault.TheVariants as tells

-- the fault of a window that wasn't printed
abbrev pub of_telling : PrintFault → ServeFault
of_telling tells.NoMemory = NoMemory
of_telling tells.Write = Write
