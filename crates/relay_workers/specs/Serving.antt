-- What a worker does, from a client to the next one, and what its gate notes of that.
use Rattle.std.specs.Prelude.{◌≡◌, ◌≤◌, ◌⊎◌, ℕ, false, List, [], ◌∷◌, Option, Result, Ok, Err}
use Rattle.base_verdict.specs.declared.Ending.TheVariants.{Done, Failed}
use Rattle.dispatch_state.specs.declared.position.Ticketed.{Ticketed}
use Rattle.grant_board.specs.RelayCalls.{new_relay, post_after}
use Rattle.grant_board.specs.Views.{Grant, RelayView, Terms}
use Rattle.log_entries.specs.declared.setup.Setup.{Setup}
use Rattle.prio_rules.specs.Wishes.{wish}
use Rattle.proxy_config.specs.declared.parts.Config.{Config}
use Rattle.relay_http.specs.Askings.{HasReadHead}
use Rattle.relay_http.specs.States.{IsFresh, Serves}
use Rattle.relay_http.specs.declared.exchange.Exchange.{Exchange}
use Rattle.relay_http.specs.declared.exchange.Stage.TheVariants.{Asked}
use Rattle.relay_workers.specs.Admissions.{arrival}
use Rattle.shared_desk.specs.Answers.{AnswersArrival}
use Rattle.relay_workers.specs.Carrying.{IsUntouched, IsServed}
use Rattle.relay_workers.specs.Endings.{EndsUnder, IsSent, IsTurnedAway}
use Rattle.relay_workers.specs.Gates.{Notice, noted}
use Rattle.relay_workers.specs.Gates.Notice.{Came, NoMore, Missing, Posted, Released}
use Rattle.relay_workers.specs.Tallies.{all_noted, no_clients}
use Rattle.relay_workers.specs.Turning.{HasTurned, IsAnswered}
use Rattle.relay_workers.specs.Waiting.{Stand, TakesPass, SpendsPauses}
use Rattle.relay_workers.specs.declared.outcome.Outcome.{Outcome}
use Rattle.relay_workers.specs.declared.stopping.Stopped.{Stopped}
use Rattle.relay_workers.specs.declared.stopping.TheConstants.{TURNS}
use Rattle.relay_workers.specs.declared.stopping.Stopped.TheVariants.{NoMemory, PausesSpent}
use Rattle.relay_workers.specs.declared.tally.Tally.{Tally}
use Rattle.req_view.specs.Request.{Request}

-- where a thread stands once its gate gave it a client, with this number of pauses left
abbrev pub with_client : {C S : Type 0} → C → ℕ → Stand C S → Stand C S
with_client client pauses before = record { notes = noted (Came client) before.notes; left = pauses; view = before.view }

-- A request had no connection: its pass was taken, which gives a slot; the gate had none for it; the
-- pass was posted as failed, and a turn was made.
pub record HasFailed {C S : Type 0} (terms : Terms) (setup : Setup) (at : Ticketed) (first last : Stand C S) : Type 0 where
  pub pass : Grant
  pub granted : Stand C S
  pub takes : TakesPass terms setup at pass first granted
  pub serves : Serves pass.verdict
  pub posts : last.view ≡ post_after granted.view pass Failed
  pub turns : HasTurned terms setup (noted (Posted last.view) (noted (Missing pass) granted.notes)) last.notes
  pub left : last.left ≡ granted.left

-- again and again
pub data HaveFailed {C S : Type 0} (terms : Terms) (setup : Setup) (at : Ticketed) (first : Stand C S) : Stand C S → Type 0 where
  not_yet : HaveFailed terms setup at first first
  again : (before after : Stand C S) → HaveFailed terms setup at first before → HasFailed terms setup at before after → HaveFailed terms setup at first after

module _ {C S : Type 0} (left told : C → Option (List ℕ)) where
  -- A client's request has its place, and waits for a pass: its head was read from the client, it
  -- arrived as the rules wish, and it had no connection, again and again; from then on nothing was read
  -- from the client or written to it.
  pub record StillWaits (terms : Terms) (setup : Setup) (config : Config) (request : Request) (held : List ℕ) (at : Ticketed) (client waiting : C)
      (first last : Stand C S) : Type 0 where
    pub read : C
    pub head : HasReadHead request held (left client) (left read)
    pub untouched : IsUntouched left told read waiting
    pub admitted : Stand C S
    pub arrives : IsAnswered terms setup (AnswersArrival terms setup (arrival (wish config request)) (wish config request).pin) (Ok at)
        first.notes admitted.notes
    pub unpaused : (admitted.left ≡ first.left) × (admitted.view ≡ first.view)
    pub failed : HaveFailed terms setup at admitted last

  -- A client whose pauses were spent, so that its request's place stays occupied. The exchange holds what
  -- was read behind the request's head, and makes no more turns than it may.
  pub record HasSpentPauses (terms : Terms) (setup : Setup) (config : Config) (exchange : Exchange) (client : C) (first last : Stand C S) : Type 0 where
    pub request : Request
    pub held : List ℕ
    pub at : Ticketed
    pub waiting : C
    pub waits : Stand C S
    pub still : StillWaits terms setup config request held at client waiting first waits
    pub spends : SpendsPauses terms setup at waiting waits last
    pub holds : exchange.pipe.inbox ≡ held
    pub turns : exchange.pipe.turns ≤ exchange.most

module _ {C S : Type 0} (left told : C → Option (List ℕ)) (left_there told_there : S → Option (List ℕ)) where
  -- A client's request ended under this pass: it was served with the bytes that were held behind its
  -- head, the pass was posted, a turn was made, and the client was released.
  pub record HasEndedUnder (terms : Terms) (setup : Setup) (config : Config) (pass : Grant) (exchange : Exchange) (outcome : Outcome) (client : C)
      (first last : Stand C S) : Type 0 where
    pub ends : EndsUnder pass.verdict exchange outcome
    pub request : Request
    pub held : List ℕ
    pub at : Ticketed
    pub waiting : C
    pub waits : Stand C S
    pub still : StillWaits left told terms setup config request held at client waiting first waits
    pub granted : Stand C S
    pub takes : TakesPass terms setup at pass waits granted
    pub served : Option (List (Notice C S))
    pub client_then : C
    pub serves : IsServed left told left_there told_there pass.verdict pass exchange outcome request held waiting client_then granted.notes served
    pub posts : last.view ≡ post_after granted.view pass Done
    pub turned : Option (List (Notice C S))
    pub turns : HasTurned terms setup (noted (Posted last.view) served) turned
    pub released : last.notes ≡ noted (Released client_then) turned
    pub unpaused : last.left ≡ granted.left

  -- A client's end: it got no place, and its seat did nothing; or it ended under the last pass that
  -- its seat took. The refusal that its exchange notes is the one that the outcome is.
  pub record HasEnded (terms : Terms) (setup : Setup) (config : Config) (exchange : Exchange) (outcome : Outcome) (client : C) (first last : Stand C S)
      : Type 0 where
    pub sent : IsSent exchange outcome
    pub end : (IsTurnedAway left told terms setup config exchange outcome client first.notes last.notes × (last.left ≡ first.left) × (last.view ≡ first.view))
        ⊎ ((pass : Grant) × HasEndedUnder terms setup config pass exchange outcome client first last)

  -- one client after the other came, and ended with these outcomes; the exchange is as the last one
  -- left it, and unchanged where none came
  abbrev pub HaveEnded : Terms → Setup → Config → List Outcome → Exchange → Exchange → Stand C S → Stand C S → Type 0
  HaveEnded terms setup config [] exchange exchange_then first last = (exchange_then ≡ exchange) × (last ≡ first)
  HaveEnded terms setup config (outcome ∷ outcomes) exchange exchange_then first last =
      (between : Stand C S) × (ended : Exchange) × (client : C) × (pauses : ℕ)
      × HasEnded terms setup config ended outcome client (with_client client pauses first) between
      × HaveEnded terms setup config outcomes ended exchange_then between last

  -- What a worker returns, after one client after the other has ended: the tally of their outcomes,
  -- where no more come; or that the pauses of the next one were spent, whose request is to be handed on.
  abbrev pub HasWorked : Terms → Setup → Config → Result Tally Stopped → Exchange → Exchange → Stand C S → Stand C S → Type 0
  HasWorked terms setup config (Ok tally) exchange exchange_then first last =
      (outcomes : List Outcome) × (before : Stand C S) × HaveEnded terms setup config outcomes exchange exchange_then first before
      × (tally ≡ all_noted no_clients outcomes) × (last.notes ≡ noted NoMore before.notes) × (last.left ≡ before.left) × (last.view ≡ before.view)
  HasWorked terms setup config (Err PausesSpent) exchange exchange_then first last =
      (outcomes : List Outcome) × (before : Stand C S)
      × ((ended : Exchange) × HaveEnded terms setup config outcomes exchange ended first before)
      × (exchange_then.stage ≡ Asked) × (exchange_then.most ≡ exchange.most)
      × ((client : C) × (pauses : ℕ) × HasSpentPauses left told terms setup config exchange_then client (with_client client pauses before) last)
  HasWorked terms setup config (Err NoMemory) exchange exchange_then first last = ⊥

  -- a worker that returned this left its seat with this view, and a gate noted what it did: under some
  -- configuration, with a fresh exchange, and at a seat that was split off and had done nothing
  abbrev pub HasLeftSeat : Terms → Setup → RelayView → Result Tally Stopped → Option (List (Notice C S)) → Option (List (Notice C S)) → Type 0
  HasLeftSeat terms setup view result before after =
      (config : Config) × (exchange : Exchange) × (exchange_then : Exchange) × (first : Stand C S) × (last : Stand C S)
      × HasWorked terms setup config result exchange exchange_then first last × (first.notes ≡ before) × (last.notes ≡ after)
      × IsFresh TURNS exchange × (first.view ≡ new_relay terms false) × (last.view ≡ view)

  -- the same, whatever its seat's view is then
  abbrev pub SomeHasWorked : Terms → Setup → Result Tally Stopped → Option (List (Notice C S)) → Option (List (Notice C S)) → Type 0
  SomeHasWorked terms setup result before after = (view : RelayView) × HasLeftSeat terms setup view result before after
