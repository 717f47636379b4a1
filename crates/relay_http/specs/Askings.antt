-- A request's head that is read from the bytes that a pipe holds.
use Rattle.std.specs.Prelude.{◌≡◌, ◌<◌, ℕ, List, [], ◌++◌, length, Option, None, IsSome}
use Rattle.httparse.specs.Grammar.{RequestHead, print_request}
use Rattle.http_bodies.specs.declared.pipe.Pipe.{Pipe}
use Rattle.exchange_machine.specs.Requests.{LacksHead, MayCome}
use Rattle.exchange_machine.specs.declared.asking.Asking.{Asking}
use Rattle.http_texts.specs.Framings.{request_framing}
use Rattle.http_texts.specs.Heads.{IsRequest}
use Rattle.relay_http.specs.Failures.{Conveys}
use Rattle.relay_http.specs.declared.asking.HeadProgress.{HeadProgress}
use Rattle.relay_http.specs.declared.asking.HeadProgress.TheVariants.{More, Whole, Refused}
use Rattle.req_view.specs.Heads.{HasNoHead, Waits}
use Rattle.req_view.specs.Request.{Request, request_of}

-- the machine was given a front of the held bytes, which isn't a whole head, and may become one
pub record HasAsked (asking : Asking) (inbox : List ℕ) : Type 0 where
  pub rest : List ℕ
  pub all : inbox ≡ asking.held.items ++ rest
  pub none : HasNoHead asking.held.items
  pub may : MayCome Waits asking.held.items

-- the machine's answer to the held bytes: it was given all of them, they aren't a whole head yet, and
-- one may still come; or a head stands there, whose bytes are used; or none will
abbrev pub AskingIsTold : HeadProgress → Pipe → Pipe → Type 0
AskingIsTold (More a) p q = (q ≡ p) × (a.held.items ≡ p.inbox) × HasNoHead p.inbox × (length p.inbox < 16384) × MayCome Waits p.inbox
AskingIsTold (Whole v) p q = (h : RequestHead) × IsRequest h × (v ≡ request_of h) × IsSome (request_framing v) × (p.inbox ≡ print_request h ++ q.inbox)
    × (q.outbox ≡ p.outbox) × (q.turns ≡ p.turns)
AskingIsTold (Refused why) p q = (q ≡ p) × LacksHead why p.inbox

-- this is the head of a request, with a sound framing, which was read from these bytes; those behind it are held
abbrev pub HasReadHead : Request → List ℕ → Option (List ℕ) → Option (List ℕ) → Type 0
HasReadHead view held before after =
    (head : RequestHead) × IsRequest head × (view ≡ request_of head) × IsSome (request_framing view)
    × Conveys [] held before after None None (print_request head) []
