-- What a server and a client read of a head that was handed on.
use Rattle.std.specs.Prelude.{◌≡◌, ℕ, Bool, List, [], ◌∷◌, ◌++◌, Option, Some, None, codes}
use Rattle.std.specs.Net.Addr.{IsIpv4Addr, IsIpv6Addr, MatchIp}
use Rattle.std.specs.Net.Text.{ip_text}
use Rattle.std.specs.declared.net.ip_addr.IpAddr.{IpAddr}
use Rattle.httparse.specs.Grammar.{RequestHead, IsRequestHead, print_request, ResponseHead, IsResponseHead, print_response}
use Rattle.http_bodies.specs.declared.framing.Framing.{Framing}
use Rattle.http_texts.specs.Fields.{kept, of_request}
use Rattle.http_texts.specs.Framings.{request_framing, answer_plan}
use Rattle.http_texts.specs.Texts.{request_text, answer_text}
use Rattle.http_texts.specs.declared.additions.Additions.{Additions}
use Rattle.http_texts.specs.declared.persistence.Persistence.{Persistence}
use Rattle.http_texts.specs.declared.plans.Plan.{Plan}
use Rattle.req_view.specs.Answer.{Answer, answer_of}
use Rattle.req_view.specs.Request.{NamedValue, Request, request_of, values_of}

-- the bounds that the type of addresses guarantees
abbrev pub IsAddress : IpAddr → Type 0
IsAddress address = MatchIp address IsIpv4Addr IsIpv6Addr

-- no address, or such an address
abbrev pub IsNamed : Option IpAddr → Type 0
IsNamed None = Unit {0}
IsNamed (Some address) = IsAddress address

-- the values of fields that name the client
abbrev pub names_of : Option IpAddr → List (List ℕ)
names_of None = []
names_of (Some address) = ip_text address ∷ []

-- The head has the same method and target. Its fields are those that are handed on, as
-- they came, and after them the proxy's own, which name this client once, or none.
pub record AsksAlike (client : Option IpAddr) (r : Request) (head : RequestHead) : Type 0 where
  pub method : head.method ≡ r.method
  pub target : head.target ≡ r.target
  pub more : List NamedValue
  pub fields : (request_of head).fields ≡ kept of_request r.fields ++ more
  pub names : values_of (codes "X-Forwarded-For") more ≡ names_of client

-- by the grammar it is one head, which asks for the same and has this framing
pub record ReadsAlike (adds : Additions) (r : Request) (framing : Framing) : Type 0 where
  pub head : RequestHead
  pub is : IsRequestHead head
  pub text_is : request_text adds r framing ≡ print_request head
  pub asks : AsksAlike adds.client r head
  pub framed : request_framing (request_of head) ≡ Some framing

-- by the grammar it is one head, which has the same status and this framing
pub record AnswersAlike (says : Persistence) (framed : Bool) (method : List ℕ) (a : Answer) (plan : Plan) : Type 0 where
  pub head : ResponseHead
  pub is : IsResponseHead head
  pub text_is : answer_text says framed a plan ≡ print_response head
  pub status : (answer_of head).status ≡ a.status
  pub planned : answer_plan method (answer_of head) ≡ Some plan
