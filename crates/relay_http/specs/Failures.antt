-- Steps of a pipe that end in a fault, and the side where it arose.
use Rattle.std.specs.Prelude.{◌≡◌, ℕ, ◌+◌, ◌<◌, ◌⊎◌, List, [], ◌++◌, length, Option}
use Rattle.std.specs.Io.KnownBytes.{Appends, Consumes, IsAtEnd}
use Rattle.http_bodies.specs.Steps.{Ends, Reads}
use Rattle.http_bodies.specs.Texts.{WritesFront}
use Rattle.http_texts.specs.declared.fault.Fault.{Fault}
use Rattle.http_texts.specs.declared.fault.Fault.TheVariants.{NoMemory, Head, Framing, Read, Write, Turns, Closed}

-- no call failed
pub record Fine (old new : Ends) : Type 0 where
  pub reads : new.source.failures ≡ old.source.failures
  pub writes : new.sink.failures ≡ old.sink.failures

-- Which fault it is, where Why says what a fault means for the input: a read failed, or the input
-- ended too early; a write failed; all turns are spent; or the bytes can't be what they have to be.
-- Want of memory isn't a fault of the input: Why says where it may be met.
abbrev pub Blames : Ends → Ends → (Fault → List ℕ → Type 0) → List ℕ → Fault → Type 0
Blames old new Why input NoMemory = Fine old new × Why NoMemory input
Blames old new Why input Head = Fine old new × Why Head input
Blames old new Why input Framing = Fine old new × Why Framing input
Blames old new Why input Read = (new.sink.failures ≡ old.sink.failures)
    × ((new.source.failures ≡ old.source.failures + 1) ⊎ ((new.source.failures ≡ old.source.failures) × IsAtEnd new.source.bytes × Why Read input))
Blames old new Why input Write = (new.source.failures ≡ old.source.failures) × (new.sink.failures ≡ old.sink.failures + 1)
Blames old new Why input Turns = Fine old new × (new.pipe.turns ≡ 0)
Blames old new Why input Closed = ⊥

-- the input has no fault
abbrev pub NoCause : Fault → List ℕ → Type 0
NoCause fault input = ⊥

-- A fault was met. `used` stands at the front of what was held and read. A front of what waited and
-- of the text was written. Where the turns were spent, some of these wasn't written, or Wants says of
-- what was held and read that more is wanted. A read that failed, or that met the end of the input,
-- was made where more is wanted, and after the whole text was written, unless bytes waited from before.
pub record Fails (old new : Ends) (used text : List ℕ) (Why : Fault → List ℕ → Type 0) (Wants : List ℕ → Type 0) (fault : Fault) : Type 0 where
  pub taken : List ℕ
  pub reads : Reads old new taken
  pub rest : List ℕ
  pub held : old.pipe.inbox ++ taken ≡ used ++ rest
  pub writes : WritesFront old.sink new.sink (old.pipe.outbox ++ text)
  pub blames : Blames old new Why (old.pipe.inbox ++ taken) fault
  pub undone : fault ≡ Turns → (0 < length writes.rest) ⊎ Wants (old.pipe.inbox ++ taken)
  pub wanted : fault ≡ Read → Wants (old.pipe.inbox ++ taken)
  pub told : fault ≡ Read → old.pipe.outbox ≡ [] → writes.rest ≡ []

-- the meaning of the fault for the input, where the fault is one of the bytes, or whether it can be met at all
abbrev pub Explains : (Fault → List ℕ → Type 0) → Fault → List ℕ → Type 0
Explains Why Head input = Why Head input
Explains Why Framing input = Why Framing input
Explains Why NoMemory input = Why NoMemory input
Explains Why Read input = Unit {0}
Explains Why Write input = Unit {0}
Explains Why Turns input = Unit {0}
Explains Why Closed input = ⊥

-- `used` was taken from what was held and read, and the whole text was written, in terms of the
-- bytes of a reader and a writer.
pub record Conveys (held rest : List ℕ) (r0 r w0 w : Option (List ℕ)) (used text : List ℕ) : Type 0 where
  pub taken : List ℕ
  pub reads : Consumes r0 r taken
  pub all : held ++ taken ≡ used ++ rest
  pub writes : Appends w0 w text

-- A fault was met: `used` stands at the front of what was held and read, and a front of the text was
-- written; where the turns were spent, not all of it, or more is wanted; and where a read failed, or
-- met the end of the input, more is wanted and the whole text was written.
pub record Misses (held : List ℕ) (r0 r w0 w : Option (List ℕ)) (used text : List ℕ) (Why : Fault → List ℕ → Type 0) (Wants : List ℕ → Type 0)
    (fault : Fault) : Type 0 where
  pub taken : List ℕ
  pub reads : Consumes r0 r taken
  pub rest : List ℕ
  pub all : held ++ taken ≡ used ++ rest
  pub front : List ℕ
  pub left : List ℕ
  pub writes : Appends w0 w front
  pub text_is : text ≡ front ++ left
  pub why : Explains Why fault (held ++ taken)
  pub undone : fault ≡ Turns → (0 < length left) ⊎ Wants (held ++ taken)
  pub wanted : fault ≡ Read → Wants (held ++ taken)
  pub told : fault ≡ Read → left ≡ []

-- a front of the text was written
pub record WrotePrefix (w0 w : Option (List ℕ)) (text : List ℕ) : Type 0 where
  pub front : List ℕ
  pub left : List ℕ
  pub writes : Appends w0 w front
  pub text_is : text ≡ front ++ left
