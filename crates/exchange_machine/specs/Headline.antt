-- The law of an exchange: it holds after any interleaving of reads, writes, ends and timeouts.
use Rattle.std.specs.Prelude.{◌≡◌, ◌≢◌, ℕ, List, [], ◌∷◌, ◌++◌}
use Rattle.std.specs.List.{AllByRecursion}
use Rattle.grant_board.specs.Views.{Grant}
use Rattle.base_lists.specs.Fronts.{IsFront}
use Rattle.http_texts.specs.Messages.{PartOfForwarded, PartOfAnswered}
use Rattle.http_texts.specs.Replies.{leave_text, refusal_text}
use Rattle.http_texts.specs.Texts.{framed_for}
use Rattle.http_texts.specs.declared.persistence.Persistence.{Persistence}
use Rattle.http_texts.specs.declared.fault.Fault.{Fault}
use Rattle.http_texts.specs.declared.fault.Fault.TheVariants as Faulty
use Rattle.http_texts.specs.declared.refusals.Code.{Code}
use Rattle.http_texts.specs.declared.refusals.Code.TheVariants.{BadRequest, Unavailable}
use Rattle.req_view.specs.Heads.{HasNoHead}
use Rattle.req_view.specs.Request.{Request}
use Rattle.base_verdict.specs.declared.Ending.TheVariants.{Failed}
use Rattle.exchange_machine.specs.Histories.{Post, ExchangeHistory, passes_of}
use Rattle.exchange_machine.specs.Reasons.{Reason, Shows}
use Rattle.exchange_machine.specs.Repeats.{IsTry}
use Rattle.exchange_machine.specs.Requests.{IsAskedBy, IsNoRequest}
use Rattle.exchange_machine.specs.declared.signs.Sign.TheVariants.{ClientOver, NoMemory}

-- a front of the text of a part that stands at the front of the input, where Part says which input
-- is a part and what it becomes
pub record IsOfPart (Part : List ℕ → List ℕ → Type 0) (input sent : List ℕ) : Type 0 where
  pub used : List ℕ
  pub rest : List ℕ
  pub text : List ℕ
  pub input_is : input ≡ used ++ rest
  pub part : Part used text
  pub front : IsFront sent text

-- the server was sent a front of the forwarded text of what the client sent
pub data ToServer (h : ExchangeHistory) : Type 0 where
  nothing : h.to_server ≡ [] → ToServer h
  of_request : (r : Request) (behind : List ℕ) → IsAskedBy h.client_in r behind → IsOfPart (PartOfForwarded h.adds r) behind h.to_server → ToServer h

-- The text for the client: nothing yet; a refusal because what it sent begins with no request, its
-- time for one is over, or memory is short; one refusal with its reason before a server was
-- reached; or the `100` that lets it go on, and after it the answered text of what the server
-- sent, or one such refusal, and never both.
pub data ClientText (h : ExchangeHistory) : List ℕ → Type 0 where
  silent : ClientText h []
  refused_unread : (fault : Fault) → fault ≢ Faulty.NoMemory → IsNoRequest fault h.client_in → ClientText h (refusal_text BadRequest)
  late : Shows h.signs ClientOver → HasNoHead h.client_in → h.grants ≡ [] → ClientText h (refusal_text BadRequest)
  starved : Shows h.signs NoMemory → h.grants ≡ [] → ClientText h (refusal_text Unavailable)
  unserved : (r : Request) (behind : List ℕ) (code : Code) → IsAskedBy h.client_in r behind → Reason h.signs r behind h.server_in code
      → ClientText h (refusal_text code)
  refused : (r : Request) (behind : List ℕ) (code : Code) → IsAskedBy h.client_in r behind → Reason h.signs r behind h.server_in code
      → ClientText h (leave_text r ++ refusal_text code)
  answered : (says : Persistence) (r : Request) (behind text : List ℕ) → IsAskedBy h.client_in r behind
      → IsOfPart (PartOfAnswered says r.method (framed_for r.version)) h.server_in text → ClientText h (leave_text r ++ text)

-- the client was sent a front of its text
pub record ToClient (h : ExchangeHistory) : Type 0 where
  pub text : List ℕ
  pub is : ClientText h text
  pub front : IsFront h.to_client text

-- a pass is posted as failed only where no byte reached its server
abbrev pub IsFair : Post → Type 0
IsFair p = p.ending ≡ Failed → p.reached ≡ []

-- each pass is posted once, in the order in which they were handed in, except for the one that is held
pub data ArePosted (h : ExchangeHistory) : Type 0 where
  all_posted : h.grants ≡ passes_of h.posts → ArePosted h
  one_held : (pass : Grant) → h.grants ≡ passes_of h.posts ++ pass ∷ [] → ArePosted h

-- each broken connection was sent a front of the client's request, and the request may be sent again
pub data AreTries (h : ExchangeHistory) : Type 0 where
  none : h.tries ≡ [] → AreTries h
  of_request : (r : Request) (behind : List ℕ) → IsAskedBy h.client_in r behind → AllByRecursion (IsTry r) h.tries → AreTries h

pub record Sound (h : ExchangeHistory) : Type 0 where
  pub server : ToServer h
  pub client : ToClient h
  pub once : ArePosted h
  pub fair : AllByRecursion IsFair h.posts
  pub tried : AreTries h
