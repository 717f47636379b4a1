-- Texts that are written to a sink, partly later.
use Rattle.std.specs.Prelude.{◌≡◌, ◌⊎◌, ℕ, ◌+◌, ◌<◌, ◌≤◌, List, [], ◌++◌, length}
use Rattle.std.specs.Io.KnownBytes.{Appends}
use Rattle.base_streams.specs.Streams.{Stream}
use Rattle.http_bodies.specs.declared.fault.Fault.{Fault}
use Rattle.http_bodies.specs.declared.fault.Fault.TheVariants.{Framing, Read, Write, Turns}
use Rattle.http_bodies.specs.declared.outbox.TheConstants.{OUTBOX_BYTES}

-- the same end of a stream was called several times, each for one turn
pub record Spends (s0 s : Stream) (turns0 turns : ℕ) : Type 0 where
  pub same : s.name ≡ s0.name
  pub calls : s0.calls ≤ s.calls
  pub spent : s.calls + turns ≡ s0.calls + turns0

-- the sink took the front, some of it at each call that succeeded
pub record Wrote (w0 w : Stream) (front : List ℕ) : Type 0 where
  pub bytes : Appends w0.bytes w.bytes front
  pub more : w0.calls + w.failures ≤ w.calls + w0.failures
  pub some : w.calls + w0.failures ≤ w0.calls + w.failures + length front
  pub none : w.calls + w0.failures ≡ w0.calls + w.failures → front ≡ []

-- The text was put after `waiting0`: a front of both was written to the sink, and the rest waits.
pub record Emits (w0 w : Stream) (turns0 turns : ℕ) (waiting0 waiting text : List ℕ) : Type 0 where
  pub front : List ℕ
  pub wrote : Wrote w0 w front
  pub all : waiting0 ++ text ≡ front ++ waiting
  pub spends : Spends w0 w turns0 turns
  pub fine : w.failures ≡ w0.failures

-- the text stands behind what waited, and nothing was written; or there was no room for both
abbrev pub WaitsBehind : Stream → Stream → List ℕ → List ℕ → List ℕ → Type 0
WaitsBehind w0 w waiting0 waiting text = ((w ≡ w0) × (waiting ≡ waiting0 ++ text)) ⊎ (OUTBOX_BYTES < length (waiting0 ++ text))

-- a front of the text was written to the sink
pub record WritesFront (w0 w : Stream) (text : List ℕ) : Type 0 where
  pub front : List ℕ
  pub rest : List ℕ
  pub wrote : Wrote w0 w front
  pub all : text ≡ front ++ rest

-- what waited is as it was until all of it was written, and then nothing waits
abbrev pub Remains : List ℕ → List ℕ → List ℕ → Type 0
Remains front waiting0 waiting = ((length front < length waiting0) × (waiting ≡ waiting0)) ⊎ ((length waiting0 ≤ length front) × (waiting ≡ []))

-- what stops a text: a write that failed, or want of turns
abbrev pub StopsBy : Stream → Stream → ℕ → Fault → Type 0
StopsBy w0 w turns Write = w.failures ≡ w0.failures + 1
StopsBy w0 w turns Turns = (w.failures ≡ w0.failures) × (turns ≡ 0)
StopsBy w0 w turns Read = ⊥
StopsBy w0 w turns Framing = ⊥

-- a front of the text was written to the sink, and a fault was met before the rest of it
pub record Stops (w0 w : Stream) (turns0 turns : ℕ) (text : List ℕ) (fault : Fault) : Type 0 where
  pub front : WritesFront w0 w text
  pub left : 0 < length front.rest
  pub spends : Spends w0 w turns0 turns
  pub cause : StopsBy w0 w turns fault
