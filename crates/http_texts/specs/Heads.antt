-- Heads at the front of the input.
use Rattle.std.specs.Prelude.{◌≡◌, List, ℕ, [], ◌++◌, None}
use Rattle.httparse.specs.Grammar.{RequestHead, ResponseHead, print_request, print_response}
use Rattle.http_texts.specs.Framings.{request_framing}
use Rattle.http_texts.specs.declared.fault.Fault.{Fault}
use Rattle.http_texts.specs.declared.fault.Fault.TheVariants.{NoMemory, Head, Framing, Read, Write, Turns, Closed}
use Rattle.req_view.specs.AnswerHeads.{HasAnswer, HasNoAnswer, NeverHasAnswer}
use Rattle.req_view.specs.Heads.{HasHead, HasNoHead, NeverHasHead}
use Rattle.req_view.specs.Request.{request_of}

-- a request's head that the proxy accepts
abbrev pub IsRequest : RequestHead → Type 0
IsRequest h = HasHead (print_request h) h []

-- an answer's head that it accepts
abbrev pub IsAnswer : ResponseHead → Type 0
IsAnswer h = HasAnswer (print_response h) h []

-- the fault of an input that doesn't begin with a request's head
abbrev pub NoRequest : Fault → List ℕ → Type 0
NoRequest Read input = HasNoHead input
NoRequest Head input = NeverHasHead input
NoRequest Framing input = ⊥
NoRequest NoMemory input = Unit {0}
NoRequest Write input = ⊥
NoRequest Turns input = ⊥
NoRequest Closed input = ⊥

-- or of one that begins with a request's head whose framing is unsound
pub record FramedBadly (input : List ℕ) : Type 0 where
  pub head : RequestHead
  pub rest : List ℕ
  pub is : IsRequest head
  pub input_is : input ≡ print_request head ++ rest
  pub no_framing : request_framing (request_of head) ≡ None

abbrev pub LacksRequest : Fault → List ℕ → Type 0
LacksRequest Read input = HasNoHead input
LacksRequest Head input = NeverHasHead input
LacksRequest Framing input = FramedBadly input
LacksRequest NoMemory input = Unit {0}
LacksRequest Write input = ⊥
LacksRequest Turns input = ⊥
LacksRequest Closed input = ⊥

-- or of one that doesn't begin with an answer's head
abbrev pub NoAnswer : Fault → List ℕ → Type 0
NoAnswer Read input = HasNoAnswer input
NoAnswer Head input = NeverHasAnswer input
NoAnswer Framing input = ⊥
NoAnswer NoMemory input = Unit {0}
NoAnswer Write input = ⊥
NoAnswer Turns input = ⊥
NoAnswer Closed input = ⊥
