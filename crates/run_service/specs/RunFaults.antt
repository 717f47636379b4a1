-- How a proxy ends.
use Rattle.std.specs.Prelude.{◌≡◌, ◌≢◌, Result, Err}
use Rattle.proxy_config.specs.declared.faults.ConfigFault.{ConfigFault}
use Rattle.proxy_config.specs.declared.parts.Config.{Config}
use Rattle.run_service.specs.declared.fault.RunFault.{RunFault}
use Rattle.run_service.specs.declared.fault.RunFault.TheVariants as faults
use Rattle.run_parts.specs.declared.fault.ServeFault.TheVariants.{NoMemory}

-- a fault of the configuration is returned only where the file has it; where the file has one, that
-- is returned, or want of memory
pub record IsEndOf {T : Type 0} (said : Result Config ConfigFault) (ended : Result T RunFault) : Type 0 where
  pub blamed : (fault : ConfigFault) → ended ≡ Err (faults.Config fault) → said ≡ Err fault
  pub told : (fault : ConfigFault) → said ≡ Err fault → ended ≢ Err (faults.Serve NoMemory) → ended ≡ Err (faults.Config fault)
