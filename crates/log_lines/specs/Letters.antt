-- The letters of HAProxy's termination state.
use Rattle.std.specs.Prelude.{ℕ}
use Rattle.base_verdict.specs.declared.cause.Cause.{Cause}
use Rattle.base_verdict.specs.declared.cause.Cause.TheVariants.{Aborted, Timeout, Retries, NoServer}
use Rattle.log_lines.specs.declared.letters.EndedBy.{EndedBy}
use Rattle.log_lines.specs.declared.letters.EndedBy.TheVariants.{Nobody, Client, ClientTime, Server, ServerTime, Proxy, Shortage}
use Rattle.log_lines.specs.declared.letters.During.{During}
use Rattle.log_lines.specs.declared.letters.During.TheVariants.{Nothing, Request, Queue, Connect, Head, Data, Last}
use Rattle.log_lines.specs.declared.letters.ExchangeEnd.{ExchangeEnd}

-- an exchange that came to its proper end
abbrev pub well : ExchangeEnd
well = record { by = Nobody; during = Nothing }

-- '-', 'C', 'c', 'S', 's', 'P' or 'R', as character codes
abbrev pub by_letter : EndedBy → ℕ
by_letter Nobody = 45
by_letter Client = 67
by_letter ClientTime = 99
by_letter Server = 83
by_letter ServerTime = 115
by_letter Proxy = 80
by_letter Shortage = 82

-- '-', 'R', 'Q', 'C', 'H', 'D' or 'L'
abbrev pub during_letter : During → ℕ
during_letter Nothing = 45
during_letter Request = 82
during_letter Queue = 81
during_letter Connect = 67
during_letter Head = 72
during_letter Data = 68
during_letter Last = 76

-- a request that was aborted because its time was over has timed out
abbrev pub if_aborted : EndedBy → Cause
if_aborted ServerTime = Timeout
if_aborted Nobody = Aborted
if_aborted Client = Aborted
if_aborted ClientTime = Aborted
if_aborted Server = Aborted
if_aborted Proxy = Aborted
if_aborted Shortage = Aborted

-- why a request wasn't served, by the cause in the dispatcher's log and by what ended its exchange
abbrev pub cause_told : Cause → EndedBy → Cause
cause_told Aborted by = if_aborted by
cause_told Timeout by = Timeout
cause_told Retries by = Retries
cause_told NoServer by = NoServer
