-- The record of an exchange: what is noted, what ended it, and what was under way then.
use Rattle.std.specs.Prelude.{ℕ, ◌==◌, Bool, true, false, ◌&&◌, not, [], Option, None, Some, option_map, unwrap_or, box_value, is_none}
use Rattle.base_verdict.specs.declared.cause.Cause.{Cause}
use Rattle.base_verdict.specs.declared.cause.Cause.TheVariants.{Aborted, Timeout, Retries, NoServer}
use Rattle.exchange_driver.specs.Meters.{tells}
use Rattle.exchange_driver.specs.declared.meter.Meter.{Meter}
use Rattle.exchange_events.specs.declared.event.TimeoutKind.{TimeoutKind}
use Rattle.exchange_events.specs.declared.event.TimeoutKind.TheVariants as clocks
use Rattle.exchange_seated.specs.declared.notice.Notice.{Notice}
use Rattle.exchange_seated.specs.declared.notice.Notice.TheVariants.{Unserved, Connected, Unreachable, ClientEnd, ClientFailed, TimeOver}
use Rattle.exchange_seated.specs.declared.seated.Stage.{Stage}
use Rattle.exchange_seated.specs.declared.seated.Stage.TheVariants as stages
use Rattle.log_lines.specs.Accounts.{ended_by, under_way}
use Rattle.log_lines.specs.declared.account.Account.{Account}
use Rattle.log_lines.specs.declared.letters.EndedBy.{EndedBy}
use Rattle.log_lines.specs.declared.letters.EndedBy.TheVariants as by
use Rattle.log_lines.specs.declared.letters.During.{During}
use Rattle.log_lines.specs.declared.letters.During.TheVariants as during
use Rattle.log_lines.specs.declared.letters.ExchangeEnd.{ExchangeEnd}
use Rattle.loop_shared.specs.declared.presence.Presence.{Presence}

-- the record of a client's exchange, where there is one
abbrev pub account_of : Presence → Option Account
account_of presence = option_map box_value presence.account

-- the request waits with this ticket
abbrev pub with_ticket : ℕ → Account → Account
with_ticket ticket account = record account { ticket = Some ticket }

-- bytes have come
abbrev pub has_come : Account → Account
has_come account = record account { is_silent = false }

-- the first byte of the request came at this moment
abbrev pub begun_at : ℕ → Account → Account
begun_at now account = record account { is_silent = false; moments = record account.moments { began = now } }

-- the first byte of the answer came at this moment
abbrev pub answered_at : ℕ → Account → Account
answered_at now account = record account { moments = record account.moments { answered = Some now } }

-- the bytes that were read from the client and written to it so far, and the status that it was sent
abbrev pub with_meter : Meter → Account → Account
with_meter meter account = record account { received = meter.received; sent = meter.sent; status = tells meter [] }

-- so many bytes were read from the client and written to it so far, and this status was sent
abbrev pub learnt : ℕ → ℕ → Option ℕ → Account → Account
learnt received sent status account = record account { received = received; sent = sent; status = status }

-- it ended so
abbrev pub end_of : EndedBy → During → ExchangeEnd
end_of ended under_way = record { by = ended; during = under_way }

-- a request ends that waits: its time is over, or the proxy stops
abbrev pub queue_end : Bool → ExchangeEnd
queue_end true = end_of by.Proxy during.Queue
queue_end false = end_of by.ServerTime during.Queue

-- A request is told this cause, where its client has left or not, and where the proxy stops or not.
abbrev pub cause_end : Cause → Bool → Bool → ExchangeEnd
cause_end Aborted true stops = end_of by.Client during.Queue
cause_end Aborted false stops = queue_end stops
cause_end Timeout gone stops = queue_end stops
cause_end Retries gone stops = end_of by.Server during.Connect
cause_end NoServer gone stops = end_of by.Server during.Connect

-- a timeout ends an exchange of which this was under way
abbrev pub time_end : TimeoutKind → During → ExchangeEnd
time_end clocks.Client under_way = end_of by.ClientTime under_way
time_end clocks.Queue under_way = end_of by.ServerTime during.Queue
time_end clocks.Connect under_way = end_of by.ServerTime during.Connect
time_end clocks.Server under_way = end_of by.ServerTime under_way

-- an event ends an exchange of which this was under way, if it does
abbrev pub notice_end : Notice → During → Option ExchangeEnd
notice_end (Connected terms) under_way = None
notice_end Unserved under_way = Some (end_of by.Shortage during.Queue)
notice_end Unreachable under_way = Some (end_of by.Server during.Connect)
notice_end ClientEnd under_way = Some (end_of by.Client under_way)
notice_end ClientFailed under_way = Some (end_of by.Client under_way)
notice_end (TimeOver clock) under_way = Some (time_end clock under_way)

-- the rest of the answer is being sent in this stage
abbrev pub last_at : Stage → Option During
last_at stages.Telling = Some during.Last
last_at stages.Asking = None
last_at stages.Waiting = None
last_at stages.Dialing = None
last_at stages.Forwarding = None
last_at stages.Over = None

-- what was under way in this stage
abbrev pub during_in : Stage → Account → During
during_in stage account = unwrap_or (last_at stage) (under_way account)

-- the server was connected at this moment
abbrev pub connected_at : ℕ → Account → Account
connected_at now account = record account { moments = record account.moments { connected = Some now } }

-- an end is noted or, where there is none, that the server was connected at this moment
abbrev pub noted : Option ExchangeEnd → ℕ → Account → Account
noted None now account = connected_at now account
noted (Some end) now account = ended_by end account

-- an event comes in this stage at this moment
abbrev pub noticed : Notice → Stage → ℕ → Account → Account
noticed notice stage now account = noted (notice_end notice (during_in stage account)) now account

-- the server didn't answer, or not to the end
abbrev pub unanswered : Account → Account
unanswered account = ended_by (end_of by.Server (under_way account)) account

-- a client that asked for nothing and was sent nothing has no line
abbrev pub has_line : Account → Bool
has_line account = not (is_none account.asked && account.received == 0 && account.sent == 0)
