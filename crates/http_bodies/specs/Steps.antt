-- The steps of a pipe: it takes input, and puts the input's text on its way.
use Rattle.std.specs.Prelude.{◌≡◌, ℕ, ◌+◌, ◌*◌, ◌^◌, ◌<◌, ◌≤◌, ◌⊎◌, List, [], ◌++◌, length}
use Rattle.std.specs.Io.KnownBytes.{Consumes, IsAtEnd}
use Rattle.base_streams.specs.Streams.{Stream}
use Rattle.http_bodies.specs.declared.fault.Fault.{Fault}
use Rattle.http_bodies.specs.declared.fault.Fault.TheVariants.{Framing, Read, Write, Turns}
use Rattle.http_bodies.specs.declared.outbox.TheConstants.{OUTBOX_BYTES}
use Rattle.http_bodies.specs.declared.pipe.Pipe.{Pipe}
use Rattle.http_bodies.specs.Texts.{Wrote, WritesFront}

-- a pipe with its source and its sink
pub record Ends : Type 0 where
  pub pipe : Pipe
  pub source : Stream
  pub sink : Stream

abbrev pub ends : Pipe → Stream → Stream → Ends
ends pipe source sink = record { pipe = pipe; source = source; sink = sink }

-- the numbers of bytes that the remaining turns allow fit into 64 bits
pub record Countable (e : Ends) : Type 0 where
  pub reads : e.source.calls + e.pipe.turns < 2 ^ 64
  pub writes : e.sink.calls + e.pipe.turns < 2 ^ 64

-- the bytes were read; each read and each write costs one turn
pub record Reads (old new : Ends) (taken : List ℕ) : Type 0 where
  pub same_source : new.source.name ≡ old.source.name
  pub same_sink : new.sink.name ≡ old.sink.name
  pub bytes : Consumes old.source.bytes new.source.bytes taken
  pub few : length taken + 65536 * old.source.calls ≤ 65536 * new.source.calls
  pub reads : old.source.calls ≤ new.source.calls
  pub writes : old.sink.calls ≤ new.sink.calls
  pub spent : new.source.calls + new.sink.calls + new.pipe.turns ≡ old.source.calls + old.sink.calls + old.pipe.turns

-- No call failed. The pipe has taken `used` from what it held and read, and has put `text` after what waited.
pub record Moves (old new : Ends) (used text : List ℕ) : Type 0 where
  pub taken : List ℕ
  pub reads : Reads old new taken
  pub held : old.pipe.inbox ++ taken ≡ used ++ new.pipe.inbox
  pub front : List ℕ
  pub writes : Wrote old.sink new.sink front
  pub waiting : old.pipe.outbox ++ text ≡ front ++ new.pipe.outbox
  pub good_reads : new.source.failures ≡ old.source.failures
  pub good_writes : new.sink.failures ≡ old.sink.failures

-- Which fault it is, where Lacks says that the wanted part doesn't stand at the front of an input:
-- a read failed, or the input ended too early; a write failed; all turns are spent; or the part
-- can't stand there, whatever follows.
abbrev pub Blames : Ends → Ends → (List ℕ → Type 0) → List ℕ → Fault → Type 0
Blames old new Lacks input Read = (new.sink.failures ≡ old.sink.failures)
    × ((new.source.failures ≡ old.source.failures + 1) ⊎ ((new.source.failures ≡ old.source.failures) × IsAtEnd new.source.bytes × Lacks input))
Blames old new Lacks input Write = (new.source.failures ≡ old.source.failures) × (new.sink.failures ≡ old.sink.failures + 1)
Blames old new Lacks input Turns = (new.source.failures ≡ old.source.failures) × (new.sink.failures ≡ old.sink.failures) × (new.pipe.turns ≡ 0)
Blames old new Lacks input Framing = (new.source.failures ≡ old.source.failures) × (new.sink.failures ≡ old.sink.failures)
    × ((more : List ℕ) → Lacks (input ++ more))

-- After a fault the rest of a text waits, whose front was written. Where a write failed, or the turns
-- were spent before the rest, the last bytes of the front may still wait before it.
pub record Lingers (front rest waiting : List ℕ) (fault : Fault) : Type 0 where
  pub sent : List ℕ
  pub again : List ℕ
  pub front_is : front ≡ sent ++ again
  pub waiting_is : waiting ≡ again ++ rest
  pub stopped : (again ≡ []) ⊎ ((0 < length rest) × ((fault ≡ Write) ⊎ (fault ≡ Turns)))

-- A fault was met. The pipe has taken `used` from what it held and read, and holds what is left. A
-- front of what waited and of the text was written, and the rest of these waits. Where the turns were
-- spent, some of these wasn't written, or Wants says of what was held and read that more is wanted. A
-- read that failed, or that met the end of the input, was made where more is wanted.
pub record Breaks (old new : Ends) (used text : List ℕ) (Lacks Wants : List ℕ → Type 0) (fault : Fault) : Type 0 where
  pub taken : List ℕ
  pub reads : Reads old new taken
  pub held : old.pipe.inbox ++ taken ≡ used ++ new.pipe.inbox
  pub writes : WritesFront old.sink new.sink (old.pipe.outbox ++ text)
  pub waiting : Lingers writes.front writes.rest new.pipe.outbox fault
  pub blames : Blames old new Lacks (old.pipe.inbox ++ taken) fault
  pub undone : fault ≡ Turns → (0 < length writes.rest) ⊎ Wants (old.pipe.inbox ++ taken)
  pub wanted : fault ≡ Read → Wants (old.pipe.inbox ++ taken)

-- Each read but the last one brings a byte at least, and the last one is made where Wants says of what
-- was held and read before it that more is wanted.
pub record Asks (old new : Stream) (held : List ℕ) (Wants : List ℕ → Type 0) : Type 0 where
  pub before : List ℕ
  pub last : List ℕ
  pub bytes : Consumes old.bytes new.bytes (before ++ last)
  pub few : new.calls ≤ old.calls + length before + 1
  pub wanted : Wants (held ++ before)

-- nothing was asked of the source, or only while more was wanted
abbrev pub AsksAtNeed : Stream → Stream → List ℕ → (List ℕ → Type 0) → Type 0
AsksAtNeed old new held Wants = (new ≡ old) ⊎ Asks old new held Wants

-- Where nothing was read, nothing was written either, unless there was no room for what waited, for
-- the text, and for the longest text of one more byte of the input.
abbrev pub HoldsBack : Ends → Ends → List ℕ → Type 0
HoldsBack old new text = new.source.calls ≡ old.source.calls → (new.sink ≡ old.sink) ⊎ (OUTBOX_BYTES < length (old.pipe.outbox ++ text) + 18)

-- the demand that nothing lacks
abbrev pub LacksNothing : List ℕ → Type 0
LacksNothing input = ⊥

-- nothing was read beside these bytes
abbrev pub IsAll : List ℕ → List ℕ → Type 0
IsAll held input = input ≡ held
