-- Whole answers, as the proxy reads them and as it sends them to the client.
use Rattle.std.specs.Prelude.{◌≡◌, ℕ, Bool, false, ◌&&◌, List, ◌++◌}
use Rattle.http_bodies.specs.declared.framing.Framing.TheVariants as Framed
use Rattle.http_texts.specs.Messages.{IsAnswered}
use Rattle.http_texts.specs.Replies.{leave_text}
use Rattle.http_texts.specs.Texts.{framed_for}
use Rattle.http_texts.specs.declared.persistence.Persistence.{Persistence}
use Rattle.req_view.specs.Request.{Request}
use Rattle.http_bodies.specs.declared.coding.Coding.{Coding}
use Rattle.exchange_machine.specs.Reasons.{Shows}
use Rattle.exchange_machine.specs.Requests.{IsAskedBy}
use Rattle.exchange_machine.specs.Wants.{is_none}
use Rattle.exchange_machine.specs.Ways.{is_read}
use Rattle.exchange_machine.specs.declared.forwarding.Forwarding.{Forwarding}
use Rattle.exchange_machine.specs.declared.sides.Down.{Down}
use Rattle.exchange_machine.specs.declared.sides.Down.TheVariants.{Heads, Body}
use Rattle.exchange_machine.specs.declared.signs.Sign.{Sign}
use Rattle.exchange_machine.specs.declared.signs.Sign.TheVariants.{ServerEnded}

-- the answer was read whole, where the server's input is over or not
abbrev pub is_read_at : Down → Coding → Bool → Bool
is_read_at (Heads count) coding over = false
is_read_at Body coding over = is_read coding over

-- the answer of this exchange was read whole; the server's input counts as over where it came to
-- its end without an error, and none of it is held
abbrev pub has_answered : Forwarding → Bool
has_answered p = is_read_at p.phase p.down.coding (p.well && is_none p.down_held.items)

-- The text is the interim answers and the whole answer to the client's request, as its server sent
-- them; an answer without a marked end went on to the end of the server's input, which came without
-- an error.
pub record TellsAnswer (signs : List Sign) (client_in server_in text : List ℕ) : Type 0 where
  pub says : Persistence
  pub request : Request
  pub behind : List ℕ
  pub asked : IsAskedBy client_in request behind
  pub came : List ℕ
  pub extra : List ℕ
  pub came_is : server_in ≡ came ++ extra
  pub given : List ℕ
  pub answered : IsAnswered says request.method (framed_for request.version) came given
  pub text_is : text ≡ leave_text request ++ given
  pub ends : answered.plan.body ≡ Framed.ToEnd → Shows signs ServerEnded
