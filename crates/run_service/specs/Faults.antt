-- Why a service ends.
use Rattle.run_parts.specs.declared.fault.ServeFault.{ServeFault}
use Rattle.run_parts.specs.declared.fault.ServeFault.TheVariants.{NoMemory, SeatsLost}
use Rattle.run_service.specs.declared.looping.LoopsFault.{LoopsFault}
use Rattle.run_service.specs.declared.looping.LoopsFault.TheVariants as loops

-- the fault of a service whose loops ended early
abbrev pub of_loops : LoopsFault → ServeFault
of_loops loops.NoMemory = NoMemory
of_loops loops.SeatsLost = SeatsLost
