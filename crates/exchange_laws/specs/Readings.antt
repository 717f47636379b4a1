-- What passes over a client's and over a server's connection, as a reader by the grammar finds it.
use Rattle.std.specs.Prelude.{◌≡◌, ℕ, true, List, [], ◌∷◌, map, Some}
use Rattle.std.specs.List.{flat_map, AllByRecursion}
use Rattle.http_bodies.specs.Framings.{IsBody}
use Rattle.http_bodies.specs.declared.framing.Framing.{Framing}
use Rattle.http_texts.specs.Framings.{request_framing}
use Rattle.req_view.specs.Request.{request_of}
use Rattle.exchange_machine.specs.Wholes.{Whole, asked, told, forwarded_of, answer_of_server}
use Rattle.exchange_laws.specs.Alike.{AsksAlike, IsNamed}
use Rattle.exchange_laws.specs.Messages.{Message, IsMessage, print_message}
use Rattle.exchange_laws.specs.Replies.{Reply, AreReplies, print_reply}

abbrev pub message_of : Whole → Message
message_of w = record { head = w.head; body = w.body }

abbrev pub method_of : Whole → List ℕ
method_of w = w.head.method

-- the bytes that the client sent in these exchanges are one message each and no byte more, and the
-- bytes that it was sent are one answer each and no byte more
pub record AreReadSo (ws : List Whole) : Type 0 where
  pub each : AllByRecursion IsMessage (map message_of ws)
  pub asked_is : flat_map asked ws ≡ flat_map print_message (map message_of ws)
  pub replies : List Reply
  pub are : AreReplies (map method_of ws) replies
  pub told_is : flat_map told ws ≡ flat_map print_reply replies

-- the exchange tells its server of no client, or of a client with an address; every client that the
-- proxy knows has one (`exchange_laws::what_an_address_keeps`)
abbrev pub IsNamedIn : Whole → Type 0
IsNamedIn w = IsNamed w.adds.client

-- The message is the request of this exchange: it has the same method and target, and its body is the
-- client's as that one frames it, for a chunked body without its extensions and trailers.
pub record IsMessageOf (w : Whole) (m : Message) : Type 0 where
  pub asks : AsksAlike w.adds.client (request_of w.head) m.head
  pub framing : Framing
  pub framed : request_framing (request_of w.head) ≡ Some framing
  pub body : IsBody framing true w.body m.body

-- one message for each exchange, in order
abbrev pub AreOf : List Whole → List Message → Type 0
AreOf [] [] = Unit {0}
AreOf (w ∷ ws) (m ∷ ms) = IsMessageOf w m × AreOf ws ms
AreOf [] (m ∷ ms) = ⊥
AreOf (w ∷ ws) [] = ⊥

-- the bytes that a server was sent for these exchanges are one message each and no byte more
pub record AreSentSo (ws : List Whole) : Type 0 where
  pub messages : List Message
  pub each : AllByRecursion IsMessage messages
  pub are : AreOf ws messages
  pub sent_is : flat_map forwarded_of ws ≡ flat_map print_message messages

-- the bytes that came from the server for them are one answer each, by its request's method, and no byte more
pub record AreAnsweredSo (ws : List Whole) : Type 0 where
  pub replies : List Reply
  pub are : AreReplies (map method_of ws) replies
  pub came_is : flat_map answer_of_server ws ≡ flat_map print_reply replies
