-- What an event makes of an exchange, beyond its history: how much of it is taken, what is given
-- away, and the next exchange.
use Rattle.std.specs.Prelude.{◌≡◌, ◌≢◌, ◌⊎◌, ℕ, ◌+◌, ◌-◌, ◌≤◌, min, Bool, true, false, if◌then◌else◌, List, [], ◌++◌, length, take, drop}
use Rattle.base_verdict.specs.declared.Ending.TheVariants.{Done, Failed}
use Rattle.grant_board.specs.Views.{Grant}
use Rattle.http_bodies.specs.Stops.{is_bad, is_done}
use Rattle.http_bodies.specs.declared.coding.Coding.TheVariants.{ToEnd}
use Rattle.http_bodies.specs.declared.outbox.TheConstants.{OUTBOX_BYTES}
use Rattle.http_texts.specs.Replies.{refusal_text}
use Rattle.http_texts.specs.declared.refusals.Code.{Code}
use Rattle.http_texts.specs.declared.refusals.Code.TheVariants.{BadGateway, BadRequest, Unavailable}
use Rattle.exchange_machine.specs.Changes.{IsBegunOn, IsLeftOf, Uses, begun_after, left_after}
use Rattle.exchange_machine.specs.Findings.{LacksHeadRoom}
use Rattle.exchange_machine.specs.Histories.{ExchangeHistory, client_came, server_came}
use Rattle.exchange_machine.specs.Reasons.{NoneFollows}
use Rattle.exchange_machine.specs.Repeatables.{IsSentAgain, IsUntouched}
use Rattle.exchange_machine.specs.Stages.{HoldsNoHead, IsChecked, IsForwarding}
use Rattle.exchange_machine.specs.Wants.{is_none}
use Rattle.exchange_machine.specs.Ways.{IsUsedUp}
use Rattle.exchange_machine.specs.declared.asking.Turn.TheVariants as Turns
use Rattle.exchange_machine.specs.declared.dialing.Dialing as dialings
use Rattle.exchange_machine.specs.declared.dialing.Terms.{Terms}
use Rattle.exchange_machine.specs.declared.ending.Rest.TheVariants as rests
use Rattle.exchange_machine.specs.declared.forwarding.Forwarding as forwardings
use Rattle.exchange_machine.specs.declared.leaving.Leaving as leavings
use Rattle.exchange_machine.specs.declared.settling.Settling as settlings
use Rattle.exchange_machine.specs.declared.signs.Sign.{Sign}
use Rattle.exchange_machine.specs.declared.signs.Sign.TheVariants.{ServerEnded}
use Rattle.exchange_machine.specs.declared.sides.Down.TheVariants.{Body, Heads}
use Rattle.exchange_machine.specs.declared.telling.Telling as tellings
use Rattle.exchange_events.specs.Steps.{is_left}
use Rattle.exchange_events.specs.declared.event.Event.{Event}
use Rattle.exchange_events.specs.declared.event.Event.TheVariants as Events
use Rattle.exchange_events.specs.declared.event.TimeoutKind.{TimeoutKind}
use Rattle.exchange_events.specs.declared.event.TimeoutKind.TheVariants as Clocks
use Rattle.exchange_events.specs.declared.exchange.Exchange.{Exchange}
use Rattle.exchange_events.specs.declared.exchange.Exchange.TheVariants.{Asking, Waiting, Dialing, Forwarding, Settling, Leaving, Telling, Over}
use Rattle.exchange_events.specs.declared.exchange.Outcome.{Outcome}
use Rattle.exchange_events.specs.declared.exchange.Outcome.TheVariants.{Quiet, Posts, Starved, StarvedPosts, Retries, Returns}

-- nothing is taken of the event, and nothing changes
pub record Stays (x : Exchange) (used : ℕ) (outcome : Outcome) (next : Exchange) : Type 0 where
  pub none : used ≡ 0
  pub quiet : outcome ≡ Quiet
  pub same : next ≡ x

-- its client is sent this refusal, whole, and nothing else
abbrev pub IsSentRefusal : Code → Exchange → Type 0
IsSentRefusal code (Telling t) = t.rest.now ≡ refusal_text code
IsSentRefusal code x = ⊥

-- what an exchange gives away whose client left: the pass that it holds, as done
abbrev pub let_go : Exchange → Outcome
let_go (Dialing d) = Posts d.pass Done
let_go (Forwarding p) = Posts p.pass Done
let_go x = Quiet

-- its client left: nothing more is sent, and it gives away what it holds
pub record LosesClient (x : Exchange) (outcome : Outcome) (next : Exchange) : Type 0 where
  pub gives : outcome ≡ let_go x
  pub over : next ≡ Over

-- The answer stops, and the pass is posted as done. Where the client took a byte of the answer, what
-- waits for it is still sent; else it is sent this refusal behind what is left of the `100`, where
-- there is room for both.
abbrev pub StopsWith : Code → forwardings.Forwarding → Outcome → Exchange → Type 0
StopsWith code p outcome (Leaving l) = (outcome ≡ Posts p.pass Done) × (l.whole ≡ false) × (l.clean ≡ false)
    × (p.begun ≡ true → l.out ≡ p.down)
    × (p.begun ≡ false → length (take p.leave_left p.down.out) + length (refusal_text code) ≤ OUTBOX_BYTES
    → l.out.out ≡ take p.leave_left p.down.out ++ refusal_text code)
StopsWith code p outcome next = ⊥

-- there is no memory, or never room, for a text: it stops with 503, and counts as starved where the
-- client took no byte of the answer
abbrev pub StarvesIn : forwardings.Forwarding → Outcome → Exchange → Type 0
StarvesIn p outcome next =
    StopsWith Unavailable p (Posts p.pass Done) next × (outcome ≡ (if p.begun then Posts p.pass Done else StarvedPosts p.pass Done))

-- both messages may go on
abbrev pub RelaysOn : forwardings.Forwarding → Outcome → Exchange → Type 0
RelaysOn p outcome next = (next ≡ Forwarding p) × (outcome ≡ Quiet)

-- The answer is whole, and the pass is posted as done: what waits for the client is still sent, and
-- it may ask again where both messages were whole and it was told so.
abbrev pub EndsWhole : forwardings.Forwarding → Outcome → Exchange → Type 0
EndsWhole p outcome (Settling s) = (outcome ≡ Posts p.pass Done) × IsLeftOf p (rests.Settling s)
EndsWhole p outcome (Leaving l) = (outcome ≡ Posts p.pass Done) × IsLeftOf p (rests.Leaving l)
EndsWhole p outcome next = ⊥

-- the same request is sent on another connection, anew
abbrev pub Repeats : forwardings.Forwarding → Outcome → Exchange → Type 0
Repeats p outcome (Dialing d) = (outcome ≡ Retries) × (d.pass ≡ p.pass) × (d.reached ≡ p.reached)
    × (d.waiting.asked.view ≡ p.view) × (d.waiting.asked.framing ≡ p.framing) × (d.waiting.asked.held ≡ p.up_held)
Repeats p outcome next = ⊥

-- the bytes that wait for a server are sent on another connection, as they are
abbrev pub Redials : forwardings.Forwarding → Outcome → Exchange → Type 0
Redials p outcome next = (outcome ≡ Retries) × (next ≡ Forwarding (record p { cut = false; ended = false; well = false; dialing = true }))

-- before the answer's own head, where no whole head is there: a bad request is refused; until the
-- server's input ends both go on; then the request is sent again, where that is done, or else what
-- waits of it; and else the client is told 502
pub record AwaitsHead (p : forwardings.Forwarding) (outcome : Outcome) (next : Exchange) : Type 0 where
  pub bad : is_bad p.up.coding ≡ true → StopsWith BadRequest p outcome next
  pub more : is_bad p.up.coding ≡ false → p.ended ≡ false → RelaysOn p outcome next
  pub again : is_bad p.up.coding ≡ false → p.ended ≡ true → IsSentAgain p → Repeats p outcome next
  pub redials : is_bad p.up.coding ≡ false → p.ended ≡ true → ¬ (IsSentAgain p) → IsUntouched p → Redials p outcome next
  pub ended : is_bad p.up.coding ≡ false → p.ended ≡ true → ¬ (IsSentAgain p) → ¬ (IsUntouched p) → StopsWith BadGateway p outcome next

-- behind it: a bad body is cut, or told as 502 where nothing of it was taken; a whole answer settles;
-- until the server's input ends and all its bytes are used both go on; then a body that goes on to
-- the end is whole, and any other breaks off
pub record AwaitsBody (p : forwardings.Forwarding) (outcome : Outcome) (next : Exchange) : Type 0 where
  pub bad : is_bad p.down.coding ≡ true → StopsWith BadGateway p outcome next
  pub whole : is_bad p.down.coding ≡ false → is_done p.down.coding ≡ true → EndsWhole p outcome next
  pub more : is_bad p.down.coding ≡ false → is_done p.down.coding ≡ false → p.ended ≡ false → RelaysOn p outcome next
  pub held : is_bad p.down.coding ≡ false → is_done p.down.coding ≡ false → p.down_held.items ≢ [] → RelaysOn p outcome next
  pub end : is_bad p.down.coding ≡ false → is_done p.down.coding ≡ false → p.ended ≡ true → p.down_held.items ≡ [] → p.down.coding ≡ ToEnd
      → EndsWhole p outcome next
  pub broken : is_bad p.down.coding ≡ false → is_done p.down.coding ≡ false → p.ended ≡ true → p.down_held.items ≡ [] → p.down.coding ≢ ToEnd
      → StopsWith BadGateway p outcome next

-- what came has no head that is handed on: 502
pub record LacksAnswerHead (p : forwardings.Forwarding) (outcome : Outcome) (next : Exchange) : Type 0 where
  pub count : ℕ
  pub heads : p.phase ≡ Heads count
  pub none : NoneFollows p.view.method count p.down_held.items
  pub stops : StopsWith BadGateway p outcome next

-- a head stands in what came, whose text waits for room behind bytes for the client
pub record WaitsForRoom (p : forwardings.Forwarding) (outcome : Outcome) (next : Exchange) : Type 0 where
  pub count : ℕ
  pub heads : p.phase ≡ Heads count
  pub room : LacksHeadRoom count p
  pub behind : p.down.out ≢ []
  pub relays : RelaysOn p outcome next

-- before the answer's own head: none is there yet; or one's text waits for room; or what came has
-- none; or there is no memory, or never room, for its text
abbrev pub AwaitsAnswer : forwardings.Forwarding → Outcome → Exchange → Type 0
AwaitsAnswer p outcome next = (HoldsNoHead p × AwaitsHead p outcome next)
    ⊎ WaitsForRoom p outcome next ⊎ LacksAnswerHead p outcome next ⊎ StarvesIn p outcome next

-- An exchange with both sides active uses the bytes that it holds, as far as there is room, which is
-- no event of its history, and is judged then.
pub record IsRelayJudged (p : forwardings.Forwarding) (outcome : Outcome) (next : Exchange) : Type 0 where
  pub now : forwardings.Forwarding
  pub uses : Uses p now
  pub stays : p.phase ≡ Body → now.phase ≡ Body
  pub same : (h : ExchangeHistory) → IsForwarding p h → IsForwarding now h
  pub up_all : IsUsedUp now.up now.up_held.items
  pub down_all : now.phase ≡ Body → IsUsedUp now.down now.down_held.items
  pub head : now.phase ≢ Body → AwaitsAnswer now outcome next
  pub body : now.phase ≡ Body → AwaitsBody now outcome next

-- only an exchange with both sides active hears of it: it changes so, and is judged
abbrev pub RelayHears : (forwardings.Forwarding → ℕ → forwardings.Forwarding → Type 0) → Exchange → ℕ → Outcome → Exchange → Type 0
RelayHears Changes (Forwarding p) used outcome next = (now : forwardings.Forwarding) × Changes p used now × IsRelayJudged now outcome next
RelayHears Changes x used outcome next = Stays x used outcome next

-- bytes came, of which this many were used or are held: by its history, and nothing else
pub record HasUsed (came : ExchangeHistory → List ℕ → ExchangeHistory) (input : List ℕ) (p : forwardings.Forwarding) (used : ℕ) (now : forwardings.Forwarding) : Type 0 where
  pub uses : Uses p now
  pub stays : p.phase ≡ Body → now.phase ≡ Body
  pub history : (h : ExchangeHistory) → IsForwarding p h → IsForwarding now (came h (take used input))

-- the server took this number of the bytes that waited for it
abbrev pub HasServed : ℕ → forwardings.Forwarding → ℕ → forwardings.Forwarding → Type 0
HasServed count p used now = (used ≡ min count (length p.up.out)) × (now.up.out ≡ drop used p.up.out) × (now ≡ record p { up = now.up; reached = true })

-- the client took this number of the bytes that waited for it
abbrev pub HasTold : ℕ → forwardings.Forwarding → ℕ → forwardings.Forwarding → Type 0
HasTold count p used now = (used ≡ min count (length p.down.out)) × (now.down.out ≡ drop used p.down.out)
    × (now ≡ record p { down = now.down; begun = begun_after p.begun p.leave_left used; leave_left = left_after p.leave_left used })

-- the sign that a server's input came to its end without an error
abbrev pub is_end_sign : Sign → Bool
is_end_sign ServerEnded = true
is_end_sign sign = false

-- the server's input came to its end, without an error or with one
abbrev pub HasHeardEnd : Bool → forwardings.Forwarding → ℕ → forwardings.Forwarding → Type 0
HasHeardEnd well p used now = (used ≡ 0) × (now ≡ record p { ended = true; well = well })

-- the server takes no more
abbrev pub IsCutOff : forwardings.Forwarding → ℕ → forwardings.Forwarding → Type 0
IsCutOff p used now = (used ≡ 0) × (now ≡ record p { cut = true })

-- while its head is read: more of it is awaited, or its request waits for a pass, behind whose head
-- stands nothing that can't be its body; or it is refused; or memory is short
abbrev pub HasReadOn : Outcome → Exchange → Type 0
HasReadOn outcome (Asking a) = outcome ≡ Quiet
HasReadOn outcome (Waiting w) = (outcome ≡ Quiet) × IsChecked (Turns.Whole w)
HasReadOn outcome (Telling t) = ((outcome ≡ Quiet) × IsSentRefusal BadRequest (Telling t)) ⊎ ((outcome ≡ Starved) × IsSentRefusal Unavailable (Telling t))
HasReadOn outcome x = ⊥

-- the head of its request was read, as far as bytes came
abbrev pub IsReadOn : Exchange → Type 0
IsReadOn next = (outcome : Outcome) × HasReadOn outcome next

-- bytes came that are held: as many as fit into 16 KiB behind those that are held already
abbrev pub Fills : List ℕ → ℕ → List ℕ → Type 0
Fills held used input = used ≡ min (length input) (16384 - length held)

-- Bytes of a request's body came: none are used once the server takes no more; until then they are
-- used behind those that are held, up to the body's end and as far as there is room.
pub record HasUsedRequest (input : List ℕ) (p : forwardings.Forwarding) (used : ℕ) (now : forwardings.Forwarding) : Type 0 where
  pub by : HasUsed client_came input p used now
  pub cut : p.cut ≡ true → used ≡ 0
  pub all : p.cut ≡ false → IsUsedUp now.up (now.up_held.items ++ drop used input)

-- Bytes came from the server: those of the answer's body are used up to its end and as far as there
-- is room, where none are held before them; others are held, or none where there is no memory.
pub record HasUsedAnswer (input : List ℕ) (p : forwardings.Forwarding) (used : ℕ) (now : forwardings.Forwarding) : Type 0 where
  pub by : HasUsed server_came input p used now
  pub body : p.phase ≡ Body → p.down_held.items ≡ [] → IsUsedUp now.down (drop used input)
  pub held : (p.phase ≡ Body → p.down_held.items ≢ []) → Fills p.down_held.items used input ⊎ (used ≡ 0)

-- bytes came from the client: those of a head are held, unless memory is short
abbrev pub HearsClient : List ℕ → Exchange → ℕ → Outcome → Exchange → Type 0
HearsClient input (Asking a) used outcome next = HasReadOn outcome next × (Fills a.held.items used input ⊎ (outcome ≡ Starved))
HearsClient input x used outcome next = RelayHears (HasUsedRequest input) x used outcome next

-- bytes came from the server
abbrev pub HearsServer : List ℕ → Exchange → ℕ → Outcome → Exchange → Type 0
HearsServer input x used outcome next = RelayHears (HasUsedAnswer input) x used outcome next

-- once both sides are done, the client took this number of the bytes that still wait for it
abbrev pub TellsSettling : ℕ → settlings.Settling → ℕ → Exchange → Type 0
TellsSettling count s used (Settling t) =
    (used ≡ min count (length s.out.out)) × (t.out.out ≡ drop used s.out.out) × (t.behind ≡ s.behind) × (t.clean ≡ s.clean)
TellsSettling count s used next = ⊥

abbrev pub TellsLeaving : ℕ → leavings.Leaving → ℕ → Exchange → Type 0
TellsLeaving count l used (Leaving m) =
    (used ≡ min count (length l.out.out)) × (m.out.out ≡ drop used l.out.out) × (m.whole ≡ l.whole) × (m.clean ≡ l.clean)
TellsLeaving count l used next = ⊥

abbrev pub TellsRefused : ℕ → tellings.Telling → ℕ → Exchange → Type 0
TellsRefused count t used (Telling u) = (used ≡ min count (length t.rest.now)) × (u.rest.now ≡ drop used t.rest.now)
TellsRefused count t used next = ⊥

-- the client took this number of the bytes for it, at any stage
abbrev pub TellsClient : ℕ → Exchange → ℕ → Outcome → Exchange → Type 0
TellsClient count (Settling s) used outcome next = (outcome ≡ Quiet) × TellsSettling count s used next
TellsClient count (Leaving l) used outcome next = (outcome ≡ Quiet) × TellsLeaving count l used next
TellsClient count (Telling t) used outcome next = (outcome ≡ Quiet) × TellsRefused count t used next
TellsClient count x used outcome next = RelayHears (HasTold count) x used outcome next

-- a pass comes: who waits for one takes it, and everyone else returns it
abbrev pub IsGranted : Exchange → Grant → ℕ → Outcome → Exchange → Type 0
IsGranted (Waiting w) pass used outcome next =
    (used ≡ 1) × (outcome ≡ Quiet) × (next ≡ Dialing (record { waiting = w; pass = pass; reached = false }))
IsGranted x pass used outcome next = (used ≡ 0) × (outcome ≡ Returns pass) × (next ≡ x)

-- no pass comes: who waits for one is told 503
abbrev pub IsUnserved : Exchange → ℕ → Outcome → Exchange → Type 0
IsUnserved (Waiting w) used outcome next = (outcome ≡ Quiet) × IsSentRefusal Unavailable next
IsUnserved x used outcome next = Stays x used outcome next

-- A server can't be reached. Where no byte of the request reached one, the pass failed, and the
-- request waits for another; else its client is told 503.
pub record MissesServer (d : dialings.Dialing) (outcome : Outcome) (next : Exchange) : Type 0 where
  pub again : d.reached ≡ false → (outcome ≡ Posts d.pass Failed) × (next ≡ Waiting d.waiting)
  pub never : d.reached ≡ true → (outcome ≡ Posts d.pass Done) × IsSentRefusal Unavailable next

-- the same where a connection is awaited in place of one that broke
pub record LosesServer (p : forwardings.Forwarding) (used : ℕ) (outcome : Outcome) (next : Exchange) : Type 0 where
  pub other : p.dialing ≡ false → Stays (Forwarding p) used outcome next
  pub stops : p.dialing ≡ true → StopsWith Unavailable p outcome next

abbrev pub IsUnreached : Exchange → ℕ → Outcome → Exchange → Type 0
IsUnreached (Dialing d) used outcome next = MissesServer d outcome next
IsUnreached (Forwarding p) used outcome next = LosesServer p used outcome next
IsUnreached x used outcome next = Stays x used outcome next

-- The client is silent for too long: before its request is whole it is told 400, or nothing where it
-- sent nothing; while a pass or a connection is waited for, nothing changes; else it counts as gone.
abbrev pub IsSilent : Exchange → ℕ → Outcome → Exchange → Type 0
IsSilent (Asking a) used outcome next = (outcome ≡ Quiet)
    × (is_none a.held.items ≡ true → next ≡ Over) × (is_none a.held.items ≡ false → IsSentRefusal BadRequest next)
IsSilent (Waiting w) used outcome next = Stays (Waiting w) used outcome next
IsSilent (Dialing d) used outcome next = Stays (Dialing d) used outcome next
IsSilent x used outcome next = LosesClient x outcome next

-- the server is silent for too long: 502
abbrev pub IsMute : Exchange → ℕ → Outcome → Exchange → Type 0
IsMute (Forwarding p) used outcome next = StopsWith BadGateway p outcome next
IsMute x used outcome next = Stays x used outcome next

abbrev pub IsOverdue : TimeoutKind → Exchange → ℕ → Outcome → Exchange → Type 0
IsOverdue Clocks.Client x used outcome next = IsSilent x used outcome next
IsOverdue Clocks.Queue x used outcome next = IsUnserved x used outcome next
IsOverdue Clocks.Connect x used outcome next = IsUnreached x used outcome next
IsOverdue Clocks.Server x used outcome next = IsMute x used outcome next

-- the client sends no more: it is given up where the rules say so, and else nothing changes
pub record IsHalfClosed (aborts : Bool) (x : Exchange) (used : ℕ) (outcome : Outcome) (next : Exchange) : Type 0 where
  pub leaves : is_left aborts x ≡ true → LosesClient x outcome next
  pub stays : is_left aborts x ≡ false → Stays x used outcome next

-- A request whose server was reached begins on these terms, with the first byte still to be sent; or
-- there is no memory or no room for its head: 503.
abbrev pub StartsOn : dialings.Dialing → Terms → ℕ → Outcome → Exchange → Type 0
StartsOn d terms used outcome next =
    ((used ≡ 1) × (p : forwardings.Forwarding) × IsBegunOn d terms p × IsRelayJudged p outcome next)
    ⊎ ((used ≡ 0) × (outcome ≡ StarvedPosts d.pass Done) × IsSentRefusal Unavailable next)

-- one for which a connection is awaited in place of one that broke goes on as it is
pub record GoesOnOn (p : forwardings.Forwarding) (terms : Terms) (used : ℕ) (outcome : Outcome) (next : Exchange) : Type 0 where
  pub other : p.dialing ≡ false → Stays (Forwarding p) used outcome next
  pub goes : p.dialing ≡ true → (used ≡ 0) × IsRelayJudged (record p { fresh = terms.fresh; dialing = false }) outcome next

abbrev pub IsConnected : Exchange → Terms → ℕ → Outcome → Exchange → Type 0
IsConnected (Dialing d) terms used outcome next = StartsOn d terms used outcome next
IsConnected (Forwarding p) terms used outcome next = GoesOnOn p terms used outcome next
IsConnected x terms used outcome next = Stays x used outcome next

-- what an event makes of an exchange
abbrev pub Does : Bool → Exchange → Event → ℕ → Outcome → Exchange → Type 0
Does aborts x (Events.ClientBytes input) used outcome next = HearsClient input.now x used outcome next
Does aborts x (Events.ServerBytes input) used outcome next = HearsServer input.now x used outcome next
Does aborts x (Events.ClientTook count) used outcome next = TellsClient count x used outcome next
Does aborts x (Events.ServerTook count) used outcome next = RelayHears (HasServed count) x used outcome next
Does aborts x (Events.Granted pass) used outcome next = IsGranted x pass used outcome next
Does aborts x Events.Unserved used outcome next = IsUnserved x used outcome next
Does aborts x (Events.Connected terms) used outcome next = IsConnected x terms used outcome next
Does aborts x Events.Unreachable used outcome next = IsUnreached x used outcome next
Does aborts x Events.ClientEnd used outcome next = IsHalfClosed aborts x used outcome next
Does aborts x Events.ClientFailed used outcome next = LosesClient x outcome next
Does aborts x Events.ServerEnd used outcome next = RelayHears (HasHeardEnd true) x used outcome next
Does aborts x Events.ServerFailed used outcome next = RelayHears (HasHeardEnd false) x used outcome next
Does aborts x Events.ServerDeaf used outcome next = RelayHears IsCutOff x used outcome next
Does aborts x (Events.TimeOver clock) used outcome next = IsOverdue clock x used outcome next
