-- What was read and written while a request was handed on, call after call; and one client's end after the others'.
use Rattle.std.proofs.Common.{◌≡◌, ℕ, List, [], ◌∷◌, ◌++◌, Option, None, Some, Bool, true, false, refl, subst, sym, ◌∙◌, append-nil, ap}
use Rattle.http_bodies.specs.Steps.{LacksNothing}
use Rattle.http_texts.specs.Replies.{leave_text}
use Rattle.relay_http.specs.Calls.{Forwards, FailsToForward, Answers, FailsToAnswer}
use Rattle.relay_http.specs.Failures.{Conveys, Misses, NoCause, WrotePrefix}
use Rattle.relay_http.specs.declared.closing.Closing.{Closing}
use Rattle.relay_http.specs.declared.closing.Closing.TheVariants.{Leaving, Forwarding}
use Rattle.relay_http.specs.States.{closed_answer}
use Rattle.http_texts.specs.declared.fault.Fault.{Fault}
use Rattle.grant_board.specs.Views.{Grant, Terms}
use Rattle.log_entries.specs.declared.setup.Setup.{Setup}
use Rattle.proxy_config.specs.declared.parts.Config.{Config}
use Rattle.relay_workers.specs.Gates.{Notice}
use Rattle.relay_workers.specs.Serving.{with_client, HasEnded, HaveEnded}
use Rattle.relay_workers.specs.Waiting.{Stand}
use Rattle.relay_workers.specs.Carrying.{IsAsked, IsRelayed, IsServed}
use Rattle.base_verdict.specs.declared.Verdict.{Verdict}
use Rattle.relay_http.specs.declared.exchange.Exchange.{Exchange}
use Rattle.relay_workers.specs.declared.outcome.Outcome.{Outcome}
use Rattle.std.specs.Io.KnownBytes.{Appends}
use Rattle.req_view.specs.Request.{Request}

-- a call that reads nothing and uses nothing holds what was held
unmoved : {held rest text : List ℕ} {w0 w : Option (List ℕ)} → Conveys held rest (Some []) (Some []) w0 w [] text → rest ≡ held
unmoved {held} {rest} {text} {w0} {w} is =
    sym is.all ∙ ap (λ (l : List ℕ). held ++ l) (sym (append-nil is.taken) ∙ sym is.reads) ∙ append-nil held

module _ {C S : Type 0} (left told : C → Option (List ℕ)) (left_there told_there : S → Option (List ℕ)) where
  -- the closing is the one that the last call noted
  pub noted : {closing other : Option Closing} (view : Request) (held : List ℕ) (client client_then : C) (server server_then : S) → closing ≡ other
      → IsRelayed left told left_there told_there other view held client client_then server server_then
      → IsRelayed left told left_there told_there closing view held client client_then server server_then
  noted {closing} {other} view held client client_then server server_then same is =
      subst (λ (it : Option Closing). IsRelayed left told left_there told_there it view held client client_then server server_then) (sym same) is

  -- the `100`, and then the request
  pub asks : {view seen : Request} {held kept rest : List ℕ} {client waiting client_then : C} {server server_then : S} → seen ≡ view
      → Conveys held kept (Some []) (Some []) (told client) (told waiting) [] (leave_text seen)
      → Forwards seen kept rest (left waiting) (left client_then) (told_there server) (told_there server_then)
      → IsAsked left told left_there told_there view held client client_then server server_then
  asks {view} {seen} {held} {kept} {rest} {client} {waiting} {client_then} {server} {server_then} same leave forwards = record {
    waiting = waiting;
    leave = subst (λ (it : Request). Appends (told client) (told waiting) (leave_text it)) same leave.writes;
    rest = rest;
    forwards = subst (λ (it : Request). Forwards it held rest (left waiting) (left client_then) (told_there server) (told_there server_then)) same
        (subst (λ (it : List ℕ). Forwards seen it rest (left waiting) (left client_then) (told_there server) (told_there server_then))
        (unmoved leave) forwards);
  }

  -- the front of the `100`
  pub leaves : {view seen : Request} {held : List ℕ} {fault : Fault} {client client_then : C} {server : S} → seen ≡ view
      → Misses held None None (told client) (told client_then) [] (leave_text seen) NoCause LacksNothing fault
      → IsRelayed left told left_there told_there (Some (Leaving fault)) view held client client_then server server
  leaves {view} {seen} {held} {fault} {client} {client_then} {server} same is = (
    subst (λ (it : Request). WrotePrefix (told client) (told client_then) (leave_text it)) same
        (record { front = is.front; left = is.left; writes = is.writes; text_is = is.text_is }),
    refl,
  )

  -- the `100`, and a part of the request
  pub stops : {view seen : Request} {held kept : List ℕ} {fault : Fault} {client waiting client_then : C} {server server_then : S} → seen ≡ view
      → Conveys held kept (Some []) (Some []) (told client) (told waiting) [] (leave_text seen)
      → FailsToForward seen kept (left waiting) (left client_then) (told_there server) (told_there server_then) fault
      → IsRelayed left told left_there told_there (Some (Forwarding fault)) view held client client_then server server_then
  stops {view} {seen} {held} {kept} {fault} {client} {waiting} {client_then} {server} {server_then} same leave fails = (
    waiting,
    subst (λ (it : Request). Appends (told client) (told waiting) (leave_text it)) same leave.writes,
    subst (λ (it : Request). FailsToForward it held (left waiting) (left client_then) (told_there server) (told_there server_then) fault) same
        (subst (λ (it : List ℕ). FailsToForward seen it (left waiting) (left client_then) (told_there server) (told_there server_then) fault)
        (unmoved leave) fails),
  )

  -- the `100`, the request, and the answer
  pub answers : {view seen : Request} {held rest : List ℕ} {client asking client_then : C} {server asked server_then : S} → seen ≡ view
      → IsAsked left told left_there told_there view held client asking server asked
      → Answers seen rest (left_there asked) (left_there server_then) (told asking) (told client_then)
      → IsRelayed left told left_there told_there None view held client client_then server server_then
  answers {view} {seen} {held} {rest} {client} {asking} {client_then} {server} {asked} {server_then} same was_asked is = (
    asking,
    asked,
    was_asked,
    (rest, subst (λ (it : Request). Answers it rest (left_there asked) (left_there server_then) (told asking) (told client_then)) same is),
  )

  -- the `100`, the request, and a part of the answer, of which a byte was written or not
  pub breaks : {view seen : Request} {held : List ℕ} {fault : Fault} {client asking client_then : C} {server asked server_then : S} (begun : Bool) → seen ≡ view
      → IsAsked left told left_there told_there view held client asking server asked
      → FailsToAnswer seen (left_there asked) (left_there server_then) (told asking) (told client_then) fault
      → IsRelayed left told left_there told_there (Some (closed_answer begun fault)) view held client client_then server server_then
  breaks {view} {seen} {held} {fault} {client} {asking} {client_then} {server} {asked} {server_then} true same was_asked is = (
    asking,
    asked,
    was_asked,
    subst (λ (it : Request). FailsToAnswer it (left_there asked) (left_there server_then) (told asking) (told client_then) fault) same is,
  )
  breaks {view} {seen} {held} {fault} {client} {asking} {client_then} {server} {asked} {server_then} false same was_asked is = (
    asking,
    asked,
    was_asked,
    subst (λ (it : Request). FailsToAnswer it (left_there asked) (left_there server_then) (told asking) (told client_then) fault) same is,
  )

  -- the same for a request and bytes that are the same
  pub for_this : (verdict : Verdict) (pass : Grant) (exchange : Exchange) (outcome : Outcome) (client client_then : C) (before after : Option (List (Notice C S)))
      {view seen : Request} {held kept : List ℕ} → seen ≡ view → kept ≡ held
      → IsServed left told left_there told_there verdict pass exchange outcome seen kept client client_then before after
      → IsServed left told left_there told_there verdict pass exchange outcome view held client client_then before after
  for_this verdict pass exchange outcome client client_then before after {view} {seen} {held} {kept} same holds is =
      subst (λ (it : Request). IsServed left told left_there told_there verdict pass exchange outcome it held client client_then before after) same
      (subst (λ (it : List ℕ). IsServed left told left_there told_there verdict pass exchange outcome seen it client client_then before after) holds is)

  -- one more client's end, after the others
  pub ended_more : (terms : Terms) (setup : Setup) (config : Config) (outcomes : List Outcome) (first between now : Stand C S)
      (exchange exchange_then ended : Exchange) (outcome : Outcome) (client : C) (pauses : ℕ)
      → HaveEnded left told left_there told_there terms setup config outcomes exchange exchange_then first between
      → HasEnded left told left_there told_there terms setup config ended outcome client (with_client client pauses between) now
      → HaveEnded left told left_there told_there terms setup config (outcomes ++ outcome ∷ []) exchange ended first now
  ended_more terms setup config [] first between now exchange exchange_then ended outcome client pauses same is = (
    now,
    ended,
    client,
    pauses,
    subst (λ (it : Stand C S). HasEnded left told left_there told_there terms setup config ended outcome client (with_client client pauses it) now) same.1 is,
    (refl, refl),
  )
  ended_more terms setup config (one ∷ outcomes) first between now exchange exchange_then ended outcome client pauses others is = (
    others.0,
    others.1,
    others.2,
    others.3,
    others.4,
    ended_more terms setup config outcomes others.0 between now others.1 exchange_then ended outcome client pauses others.5 is,
  )
