-- How an exchange ended, its outcome, and the refusal that it notes.
use Rattle.std.specs.Prelude.{◌≡◌, ◌⊎◌, ℕ, List, [], Option, None, Some, Err}
use Rattle.base_verdict.specs.declared.Verdict.{Verdict}
use Rattle.base_verdict.specs.declared.Verdict.TheVariants.{Serve, Told}
use Rattle.http_texts.specs.declared.fault.Fault.{Fault}
use Rattle.http_texts.specs.declared.refusals.Code.{Code}
use Rattle.http_texts.specs.declared.refusals.Code.TheVariants.{Unavailable}
use Rattle.http_texts.specs.Heads.{LacksRequest}
use Rattle.log_entries.specs.declared.refusal.Refusal.{Refusal}
use Rattle.log_entries.specs.declared.setup.Setup.{Setup}
use Rattle.grant_board.specs.Views.{Terms}
use Rattle.prio_rules.specs.Wishes.{wish}
use Rattle.proxy_config.specs.declared.parts.Config.{Config}
use Rattle.relay_http.specs.declared.closing.Closing.{Closing}
use Rattle.relay_http.specs.declared.closing.Closing.TheVariants.{Reading, Leaving, Forwarding, Answering, Breaking}
use Rattle.relay_http.specs.declared.exchange.Exchange.{Exchange}
use Rattle.relay_http.specs.declared.exchange.Stage.TheVariants as stage
use Rattle.relay_http.specs.Askings.{HasReadHead}
use Rattle.relay_http.specs.Failures.{Misses}
use Rattle.relay_workers.specs.Admissions.{arrival, WishIsTurnedAway}
use Rattle.shared_desk.specs.Answers.{AnswersArrival}
use Rattle.relay_workers.specs.Carrying.{IsToldOutcome}
use Rattle.relay_workers.specs.Gates.{Notice, noted}
use Rattle.relay_workers.specs.Gates.Notice.{Released}
use Rattle.relay_workers.specs.Turning.{IsAnswered}
use Rattle.relay_workers.specs.declared.outcome.Outcome.{Outcome}
use Rattle.relay_workers.specs.declared.outcome.Outcome.TheVariants.{Answered, Refused, Cut}
use Rattle.relay_workers.specs.Outcomes.{after_reading, after_forwarding, after_answering, after_telling}
use Rattle.req_view.specs.Heads.{HasNoHead}
use Rattle.req_view.specs.Request.{Request}

-- the outcome for a client whose exchange was closed so
abbrev pub after_closing : Closing → Outcome
after_closing (Reading fault) = after_reading fault
after_closing (Leaving fault) = Cut
after_closing (Forwarding fault) = after_forwarding fault
after_closing (Answering fault) = after_answering fault
after_closing (Breaking fault) = Cut

-- the refusal that an outcome is
abbrev pub refusal_in : Outcome → Option Code
refusal_in (Refused code) = Some code
refusal_in outcome = None

-- the refusal that the exchange notes is the one that the outcome is, and there is none where the outcome is none
abbrev pub IsSent : Exchange → Outcome → Type 0
IsSent exchange outcome = exchange.refused ≡ refusal_in outcome

-- its server had a connection: the answer was handed on, or a fault closed it, and the outcome is the one of that fault
abbrev pub IsCarried : Exchange → Outcome → Type 0
IsCarried exchange outcome =
    ((exchange.stage ≡ stage.Answered) × (outcome ≡ Answered))
    ⊎ ((closing : Closing) × (exchange.closing ≡ Some closing) × (outcome ≡ after_closing closing))

-- the end of an exchange under a verdict: it was carried, or was told why it has no slot
abbrev pub EndsUnder : Verdict → Exchange → Outcome → Type 0
EndsUnder (Serve server) exchange outcome = IsCarried exchange outcome
EndsUnder (Told cause) exchange outcome = (exchange.closing ≡ None) × (outcome ≡ after_telling cause)

module _ {C : Type 0} (left told : C → Option (List ℕ)) where
  -- A client got no place: its head wasn't read, and the outcome is the one of that fault; or no
  -- fault closed its exchange, the request that it sent was turned away, and the outcome is 503. Then
  -- it was told so, and released.
  pub record IsTurnedAway {S : Type 0} (terms : Terms) (setup : Setup) (config : Config) (exchange : Exchange) (outcome : Outcome) (client : C)
      (before after : Option (List (Notice C S))) : Type 0 where
    pub read : C
    pub between : Option (List (Notice C S))
    pub cause : ((fault : Fault) × (exchange.closing ≡ Some (Reading fault)) × (outcome ≡ after_reading fault)
        × Misses [] (left client) (left read) None None [] [] LacksRequest HasNoHead fault × (between ≡ before))
        ⊎ ((exchange.closing ≡ None) × (outcome ≡ Refused Unavailable)
        × ((request : Request) × (held : List ℕ) × (refusal : Refusal) × HasReadHead request held (left client) (left read)
        × WishIsTurnedAway terms setup config request refusal
        × IsAnswered terms setup (AnswersArrival terms setup (arrival (wish config request)) (wish config request).pin) (Err refusal) before between))
    pub client_then : C
    pub is_told : IsToldOutcome told exchange outcome read client_then
    pub released : after ≡ noted (Released client_then) between
