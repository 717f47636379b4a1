-- What a server finds that reads by the grammar, and what a client finds.
use Rattle.std.specs.Prelude.{◌≡◌, ℕ, List, Option}
use Rattle.std.specs.declared.net.ip_addr.IpAddr.{IpAddr}
use Rattle.http_texts.specs.declared.plans.Plan.{Plan}
use Rattle.req_view.specs.Answer.{Answer, answer_of}
use Rattle.req_view.specs.Request.{Request}
use Rattle.exchange_laws.specs.Alike.{AsksAlike}
use Rattle.exchange_laws.specs.Messages.{Message, IsMessage, print_message}
use Rattle.exchange_laws.specs.Replies.{Reply, IsReply, print_reply}

-- the text is one request and no byte more; it asks for the same, and has this body
pub record FindsRequest (client : Option IpAddr) (r : Request) (body text : List ℕ) : Type 0 where
  pub message : Message
  pub is : IsMessage message
  pub text_is : text ≡ print_message message
  pub asks : AsksAlike client r message.head
  pub body_is : message.body ≡ body
  pub same : is.text ≡ body

-- the text is one answer to a request with this method, with its interim heads, and no byte more;
-- it says the same, and has this body
pub record FindsAnswer (method : List ℕ) (a : Answer) (plan : Plan) (body text : List ℕ) : Type 0 where
  pub reply : Reply
  pub is : IsReply method reply
  pub text_is : text ≡ print_reply reply
  pub status : (answer_of reply.head).status ≡ a.status
  pub plan_is : is.plan ≡ plan
  pub body_is : reply.body ≡ body
  pub same : is.text ≡ body
