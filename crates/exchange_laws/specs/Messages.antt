-- Requests one after another, as a reader by the grammar finds them.
use Rattle.std.specs.Prelude.{◌≡◌, ℕ, true, List, ◌++◌, Some}
use Rattle.httparse.specs.Grammar.{RequestHead, IsRequestHead, print_request}
use Rattle.http_bodies.specs.Framings.{IsBody}
use Rattle.http_bodies.specs.declared.framing.Framing.{Framing}
use Rattle.http_texts.specs.Framings.{request_framing}
use Rattle.req_view.specs.Request.{request_of}

-- a head, and the bytes of a body
pub record Message : Type 0 where
  pub head : RequestHead
  pub body : List ℕ

-- a head by the grammar, and a whole body of the head's framing
pub record IsMessage (m : Message) : Type 0 where
  pub head : IsRequestHead m.head
  pub framing : Framing
  pub framed : request_framing (request_of m.head) ≡ Some framing
  pub text : List ℕ
  pub body : IsBody framing true m.body text

-- its bytes
abbrev pub print_message : Message → List ℕ
print_message m = print_request m.head ++ m.body
