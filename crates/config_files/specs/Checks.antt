-- What `check` reports of a configuration, and its exit status.
use Rattle.std.specs.Prelude.{◌≡◌, ℕ, length, Result, Ok, Err}
use Rattle.proxy_config.specs.declared.faults.ConfigFault.{ConfigFault}
use Rattle.proxy_config.specs.declared.parts.Config.{Config}
use Rattle.config_files.specs.declared.checking.Checked.{Checked}
use Rattle.config_files.specs.declared.checking.Checked.TheVariants.{Good, Faulty, NoMemory, Unread}

-- the number of the file's servers, or its first fault; a lack of memory says nothing of the file
abbrev pub IsCheckOf : Result Config ConfigFault → Checked → Type 0
IsCheckOf said (Good servers) = (config : Config) × (said ≡ Ok config) × (length config.servers ≡ servers)
IsCheckOf said (Faulty fault) = said ≡ Err fault
IsCheckOf said NoMemory = Unit {0}
IsCheckOf said Unread = ⊥

-- 0; 1 where memory is refused or the file can't be read; 3 where the configuration is faulty
abbrev pub status_of_check : Checked → ℕ
status_of_check (Good servers) = 0
status_of_check (Faulty fault) = 3
status_of_check NoMemory = 1
status_of_check Unread = 1
