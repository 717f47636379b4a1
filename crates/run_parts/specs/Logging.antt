-- The logs of a service.
use Rattle.std.specs.Prelude.{◌≡◌, ◌||◌, if◌then◌else◌, Bool, Option, None, Some, is_some}
use Rattle.std.specs.Arc.{arc_value}
use Rattle.log_requests.specs.declared.log.Access.{Access}
use Rattle.log_requests.specs.declared.log.Logs.{Logs}
use Rattle.log_requests.specs.declared.log.RequestLog.{RequestLog}
use Rattle.log_requests.specs.Sinks.{IsLogOf}
use Rattle.log_sink.specs.declared.sink.Sink.{Sink}

-- the same logs, and numbers too where those are wanted beside them
abbrev pub CountsToo : Bool → Logs → Logs → Type 0
CountsToo wanted logs kept = (kept.access ≡ logs.access) × (kept.events ≡ logs.events) × (is_some kept.numbers ≡ (wanted || is_some logs.numbers))

-- the log of a service that was asked for these, and that has an admin listener or has none
abbrev pub WritesLogs : Logs → Bool → Option RequestLog → Type 0
WritesLogs logs watched log = (kept : Logs) × CountsToo watched logs kept × IsLogOf kept log

-- the sink that the lines of windows share with those of exchanges, where they do
abbrev pub windows_sink : Option Access → Option Sink
windows_sink None = None
windows_sink (Some access) = if access.has_windows then Some (arc_value access.sink) else None
