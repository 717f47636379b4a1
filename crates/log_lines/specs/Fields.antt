-- The fields of a line.
use Rattle.std.specs.Prelude.{ℕ, ◌-◌, Bool, List, Option, None, Some, codes, nat_lt}
use Rattle.std.specs.Option.{option_map_or}
use Rattle.base_verdict.specs.declared.cause.Cause.{Cause}
use Rattle.log_entries.specs.declared.queue.Queue.{Queue}
use Rattle.log_entries.specs.declared.queue.Queue.TheVariants.{Backend, Server}
use Rattle.log_lines.specs.declared.account.Moments.{Moments}
use Rattle.log_lines.specs.declared.fields.Spans.{Spans}
use Rattle.log_lines.specs.declared.numbers.Numbers.{Numbers}
use Rattle.log_lines.specs.declared.numbers.SlotNumbers.{SlotNumbers}
use Rattle.log_lines.specs.declared.numbers.StayNumbers.{StayNumbers}
use Rattle.log_texts.specs.Traces.{name_of}

-- the time from one step to another, where both happened; 0 where the other came first
abbrev pub between : Option ℕ → Option ℕ → Option ℕ
between (Some from) (Some to) = Some (to - from)
between (Some from) None = None
between None to = None

-- the times of a line: each from the step before it, and the whole
abbrev pub spans_of : Moments → Spans
spans_of moments = record {
  request = between (Some moments.began) moments.asked;
  wait = between moments.asked moments.granted;
  connect = between moments.granted moments.connected;
  answer = between moments.connected moments.answered;
  all = moments.ended - moments.began;
}

-- the name of the server that an exchange was given to last; `<NOSRV>` where it was given to none
abbrev pub server_name : List (List ℕ) → Option ℕ → List ℕ
server_name names server = option_map_or (name_of names) server (codes "<NOSRV>")

-- the number of failed connections that another try followed: where a request wasn't served, all but the last
abbrev pub retries : Numbers → ℕ
retries numbers = option_map_or (λ (cause : Cause). numbers.failures - 1) numbers.cause numbers.failures

-- a request was given more than one slot
abbrev pub is_redispatched : Numbers → Bool
is_redispatched numbers = nat_lt 1 numbers.slots

-- how many requests went before it, from its server's queue and from the backend's, by the queue that it waited in
abbrev pub ahead_in : Queue → ℕ → ℕ × ℕ
ahead_in (Server server) count = (count, 0)
ahead_in Backend count = (0, count)

-- the same of a slot: none where the request didn't wait for it
abbrev pub ahead_of : SlotNumbers → ℕ × ℕ
ahead_of slot = option_map_or (λ (stay : StayNumbers). ahead_in stay.queue slot.ahead) slot.stay (0, 0)
