-- Why a client is refused.
use Rattle.std.specs.Prelude.{◌≡◌, ℕ, ◌≤◌, true, List, ◌∷◌, ◌++◌, length, Option, Some, None}
use Rattle.httparse.specs.Grammar.{ResponseHead, print_response}
use Rattle.http_bodies.specs.Framings.{LacksBody}
use Rattle.http_texts.specs.Framings.{answer_plan, is_interim}
use Rattle.http_texts.specs.Messages.{AreInterims, IsFinal, print_heads}
use Rattle.http_texts.specs.declared.refusals.Code.{Code}
use Rattle.http_texts.specs.declared.refusals.Code.TheVariants.{BadGateway, BadRequest, Unavailable}
use Rattle.http_texts.specs.declared.plans.Plan.{Plan}
use Rattle.req_view.specs.Answer.{Answer}
use Rattle.req_view.specs.AnswerHeads.{SaysAnswer, NeverHasAnswer}
use Rattle.req_view.specs.Request.{Request}
use Rattle.exchange_machine.specs.Requests.{BreaksBody}
use Rattle.exchange_machine.specs.declared.signs.Sign.{Sign}
use Rattle.exchange_machine.specs.declared.signs.Sign.TheVariants.{ClientEnded, ClientFailed, ServerEnded, ServerFailed, ServerDeaf, Unreachable, Unserved, ClientOver, QueueOver, ConnectOver, ServerOver, NoMemory}

-- this sign is among the signs
pub record Shows (signs : List Sign) (sign : Sign) : Type 0 where
  pub before : List Sign
  pub behind : List Sign
  pub is : signs ≡ before ++ sign ∷ behind

-- the status for a client whose request was read, for a sign before any answer began
abbrev pub told_for : Sign → Option Code
told_for ClientEnded = None
told_for ClientFailed = None
told_for ServerEnded = Some BadGateway
told_for ServerFailed = Some BadGateway
told_for ServerDeaf = None
told_for Unreachable = Some Unavailable
told_for Unserved = Some Unavailable
told_for ClientOver = None
told_for QueueOver = Some Unavailable
told_for ConnectOver = Some Unavailable
told_for ServerOver = Some BadGateway
told_for NoMemory = Some Unavailable

-- after this number of interim heads the bytes begin with no head that is handed on
pub data NoneFollows (method : List ℕ) (count : ℕ) (held : List ℕ) : Type 0 where
  never : NeverHasAnswer held → NoneFollows method count held
  unplanned : (a : Answer) (len : ℕ) → SaysAnswer held a len → answer_plan method a ≡ None → NoneFollows method count held
  ninth : (a : Answer) (len : ℕ) → SaysAnswer held a len → is_interim a.status ≡ true → 8 ≤ count → NoneFollows method count held

-- the bytes from the server have no answer that is handed on
pub record LacksAnswer (method input : List ℕ) : Type 0 where
  pub interims : List ResponseHead
  pub are : AreInterims method interims
  pub held : List ℕ
  pub input_is : input ≡ print_heads interims ++ held
  pub lacks : NoneFollows method (length interims) held

-- the bytes from the server are an answer with an unsound body, whatever follows
pub record BreaksAnswer (method input : List ℕ) : Type 0 where
  pub interims : List ResponseHead
  pub are : AreInterims method interims
  pub head : ResponseHead
  pub plan : Plan
  pub final : IsFinal method head plan
  pub behind : List ℕ
  pub input_is : input ≡ print_heads interims ++ (print_response head ++ behind)
  pub breaks : (more : List ℕ) → LacksBody plan.body (behind ++ more)

-- why a request that was read is refused: a sign says so; or the bytes from the server are no
-- answer; or the bytes after its own head are no body
pub data Reason (signs : List Sign) (r : Request) (behind answer : List ℕ) : Code → Type 0 where
  of_sign : (sign : Sign) (code : Code) → Shows signs sign → told_for sign ≡ Some code → Reason signs r behind answer code
  bad_answer : LacksAnswer r.method answer → Reason signs r behind answer BadGateway
  broken_answer : BreaksAnswer r.method answer → Reason signs r behind answer BadGateway
  broken_request : BreaksBody r behind → Reason signs r behind answer BadRequest

-- the server's input came to its end, or failed
pub record HasEnded (signs : List Sign) : Type 0 where
  pub sign : Sign
  pub shows : Shows signs sign
  pub tells : told_for sign ≡ Some BadGateway
