-- The client's bytes: a request, or something that the proxy refuses.
use Rattle.std.specs.Prelude.{◌≡◌, ◌==◌, ◌⊎◌, ℕ, false, List, [], ◌++◌, Some}
use Rattle.std.specs.List.{list_any}
use Rattle.httparse.specs.Grammar.{RequestHead, print_request}
use Rattle.http_bodies.specs.Framings.{LacksBody}
use Rattle.http_bodies.specs.declared.framing.Framing as Framed
use Rattle.http_texts.specs.Framings.{request_framing}
use Rattle.http_texts.specs.Heads.{IsRequest, FramedBadly}
use Rattle.http_texts.specs.declared.fault.Fault.{Fault}
use Rattle.http_texts.specs.declared.fault.Fault.TheVariants.{NoMemory, Head, Framing, Read, Write, Turns, Closed}
use Rattle.req_view.specs.Heads.{NeverHasHead}
use Rattle.req_view.specs.Request.{Request, request_of}

-- A head may still come: these bytes were waited on at the last look, and no line has ended since.
-- Awaits says which bytes are waited on, a request's or an answer's.
pub record MayCome (Awaits : List ℕ → Type 0) (input : List ℕ) : Type 0 where
  pub front : List ℕ
  pub since : List ℕ
  pub input_is : input ≡ front ++ since
  pub waits : (front ≡ []) ⊎ Awaits front
  pub unended : list_any (λ byte. byte == 10) since ≡ false

-- the request that the client sent, and the bytes after its head
pub record IsAskedBy (input : List ℕ) (r : Request) (behind : List ℕ) : Type 0 where
  pub head : RequestHead
  pub is : IsRequest head
  pub request_is : r ≡ request_of head
  pub input_is : input ≡ print_request head ++ behind

-- the bytes after a request's head begin with no body of its framing, whatever follows
pub record BreaksBody (r : Request) (behind : List ℕ) : Type 0 where
  pub framing : Framed.Framing
  pub framed : request_framing r ≡ Some framing
  pub breaks : (more : List ℕ) → LacksBody framing (behind ++ more)

-- a request came with an unsound body
pub record IsBroken (input : List ℕ) : Type 0 where
  pub request : Request
  pub behind : List ℕ
  pub asked : IsAskedBy input request behind
  pub breaks : BreaksBody request behind

-- the fault of an input that is refused before a pass is asked for; half a head has none
abbrev pub IsNoRequest : Fault → List ℕ → Type 0
IsNoRequest Head input = NeverHasHead input
IsNoRequest Framing input = FramedBadly input ⊎ IsBroken input
IsNoRequest NoMemory input = Unit {0}
IsNoRequest Read input = ⊥
IsNoRequest Write input = ⊥
IsNoRequest Turns input = ⊥
IsNoRequest Closed input = ⊥

-- the fault of an input that begins with no head, or with one whose framing is unsound, whatever stands after it
abbrev pub LacksHead : Fault → List ℕ → Type 0
LacksHead Head input = NeverHasHead input
LacksHead Framing input = FramedBadly input
LacksHead NoMemory input = Unit {0}
LacksHead Read input = ⊥
LacksHead Write input = ⊥
LacksHead Turns input = ⊥
LacksHead Closed input = ⊥
