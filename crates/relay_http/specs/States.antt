-- The state of an exchange after each of its calls.
use Rattle.std.specs.Prelude.{◌≡◌, ℕ, ◌<◌, Bool, true, false, None, List, [], length, ◌⊎◌, IsTrue, IsFalse}
use Rattle.std.specs.Io.KnownBytes.{Appends, Keeps}
use Rattle.base_streams.specs.Streams.{Stream}
use Rattle.grant_board.specs.Views.{Grant}
use Rattle.http_bodies.specs.declared.pipe.Pipe.{Pipe}
use Rattle.http_texts.specs.declared.fault.Fault.{Fault}
use Rattle.relay_http.specs.declared.closing.Closing.{Closing}
use Rattle.relay_http.specs.declared.closing.Closing.TheVariants.{Answering, Breaking}
use Rattle.relay_http.specs.declared.exchange.Exchange.{Exchange}
use Rattle.relay_http.specs.declared.exchange.Stage.{Stage}
use Rattle.relay_http.specs.declared.exchange.Stage.TheVariants.{New, Forwarded, Failed}
use Rattle.base_verdict.specs.declared.Verdict.{Verdict}
use Rattle.base_verdict.specs.declared.Verdict.TheVariants.{Serve, Told}

-- no fault closed it, and it was asked for no refusal
pub record IsOpen (e : Exchange) : Type 0 where
  pub closing : e.closing ≡ None
  pub refused : e.refused ≡ None

-- the closing by a fault while an answer is handed on, by whether a byte of it was written
abbrev pub closed_answer : Bool → Fault → Closing
closed_answer true fault = Breaking fault
closed_answer false fault = Answering fault

-- nothing was read or written yet
pub record IsFresh (most : ℕ) (e : Exchange) : Type 0 where
  pub held : e.pipe.inbox ≡ []
  pub turns : e.pipe.turns ≡ most
  pub most_is : e.most ≡ most
  pub stage : e.stage ≡ New
  pub begun : e.begun ≡ false
  pub unclosed : IsOpen e

-- it is at this stage, or has met a fault
abbrev pub IsAtOrFailed : Stage → Exchange → Type 0
IsAtOrFailed stage e = (e.stage ≡ stage) ⊎ (e.stage ≡ Failed)

-- a verdict that gives a slot of a server, and so doesn't refuse the request
abbrev pub Serves : Verdict → Type 0
Serves (Serve server) = Unit {0}
Serves (Told cause) = ⊥

-- the stage of an exchange whose request was handed on under this pass
abbrev pub forwarded_on : Grant → Stage
forwarded_on pass = Forwarded pass.ticket pass.verdict

-- the pipe without the bytes that it holds
abbrev pub emptied : Pipe → Pipe
emptied p = record { inbox = []; outbox = p.outbox; turns = p.turns }

-- Whether a byte of an answer was written stays known: before the first one nothing was written,
-- and where one was now, something was.
pub record Marks (w0 w : Stream) (before after : Bool) : Type 0 where
  pub stays : IsTrue before → IsTrue after
  pub unset : IsFalse after → Keeps w0.bytes w.bytes
  pub rose : IsFalse before → IsTrue after → (front : List ℕ) × (0 < length front) × Appends w0.bytes w.bytes front
