-- The event of a notice.
use Rattle.exchange_events.specs.declared.event.Event.{Event}
use Rattle.exchange_events.specs.declared.event.Event.TheVariants as events
use Rattle.exchange_seated.specs.declared.notice.Notice.{Notice}
use Rattle.exchange_seated.specs.declared.notice.Notice.TheVariants as notices

-- what an exchange is told by a notice
abbrev pub event_of : Notice → Event
event_of notices.Unserved = events.Unserved
event_of (notices.Connected terms) = events.Connected terms
event_of notices.Unreachable = events.Unreachable
event_of notices.ClientEnd = events.ClientEnd
event_of notices.ClientFailed = events.ClientFailed
event_of (notices.TimeOver clock) = events.TimeOver clock
