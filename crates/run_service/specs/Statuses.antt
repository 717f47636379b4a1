-- The exit status of a program.
use Rattle.std.specs.Prelude.{ℕ, Result, Ok, Err}
use Rattle.run_service.specs.declared.fault.RunFault.{RunFault}
use Rattle.run_service.specs.declared.fault.RunFault.TheVariants.{Config, Serve}

-- 0; 3 where the configuration is faulty; 1 where anything else went wrong
abbrev pub status_of : Result (Unit {0}) RunFault → ℕ
status_of (Ok done) = 0
status_of (Err (Config fault)) = 3
status_of (Err (Serve fault)) = 1
