-- Where the lines of a proxy go.
use Rattle.std.specs.Prelude.{◌≡◌, None, Option, Some, is_some}
use Rattle.log_requests.specs.declared.log.Logs.{Logs}
use Rattle.log_requests.specs.declared.log.RequestLog.{RequestLog}

-- no log is wanted
abbrev pub AreUnwanted : Logs → Type 0
AreUnwanted logs = (logs.access ≡ None) × (logs.events ≡ None) × (logs.numbers ≡ None)

-- a log's lines go to the sinks that are wanted, and it counts where that is wanted
abbrev pub HasSinks : Logs → RequestLog → Type 0
HasSinks logs log = (log.access ≡ logs.access) × (log.events ≡ logs.events) × (is_some log.numbers ≡ is_some logs.numbers)

-- there is a log where one is wanted, and only there
abbrev pub IsLogOf : Logs → Option RequestLog → Type 0
IsLogOf logs None = AreUnwanted logs
IsLogOf logs (Some log) = HasSinks logs log
