-- The state of an exchange after a history, and the effect of an event on a history.
use Rattle.std.specs.Prelude.{◌≡◌, ◌≤◌, ℕ, zero, suc, Bool, true, false, ◌||◌, not, if◌then◌else◌, List, [], ◌∷◌, length, take, Option, Some, None}
use Rattle.http_bodies.specs.Stops.{is_done}
use Rattle.grant_board.specs.Views.{Grant}
use Rattle.http_texts.specs.declared.additions.Additions.{Additions}
use Rattle.exchange_machine.specs.Histories.{ExchangeHistory, connected_on, client_came, server_came, server_got, client_got, granted, posted, retried, signed}
use Rattle.exchange_machine.specs.Settlings.{IsSettling}
use Rattle.exchange_machine.specs.Wants.{takes_request, takes_answer, sends_request}
use Rattle.exchange_machine.specs.Stages.{IsAsking, IsWaiting, IsDialing, IsForwarding, IsLeaving, IsTelling, IsOver}
use Rattle.exchange_machine.specs.declared.signs.Sign.{Sign}
use Rattle.exchange_machine.specs.declared.signs.Sign.TheVariants as Signs
use Rattle.base_verdict.specs.declared.Ending.TheVariants.{Done, Failed}
use Rattle.exchange_events.specs.declared.event.TimeoutKind.{TimeoutKind}
use Rattle.exchange_events.specs.declared.event.TimeoutKind.TheVariants as Clocks
use Rattle.exchange_events.specs.declared.event.Event.{Event}
use Rattle.exchange_events.specs.declared.event.Event.TheVariants as Events
use Rattle.exchange_events.specs.declared.exchange.Exchange.{Exchange}
use Rattle.exchange_events.specs.declared.exchange.Exchange.TheVariants.{Asking, Waiting, Dialing, Forwarding, Settling, Leaving, Telling, Over}
use Rattle.exchange_events.specs.declared.exchange.Outcome.{Outcome}
use Rattle.exchange_events.specs.declared.exchange.Outcome.TheVariants as Outcomes

-- the stage that it is at
abbrev pub IsAtItsStage : Exchange → ExchangeHistory → Type 0
IsAtItsStage (Asking a) h = IsAsking a h
IsAtItsStage (Waiting w) h = IsWaiting w h
IsAtItsStage (Dialing d) h = IsDialing d h
IsAtItsStage (Forwarding p) h = IsForwarding p h
IsAtItsStage (Settling s) h = IsSettling s h
IsAtItsStage (Leaving l) h = IsLeaving l h
IsAtItsStage (Telling t) h = IsTelling t h
IsAtItsStage Over h = IsOver h

-- it is the state after some history: by the law of an exchange that history is sound
abbrev pub HasHistory : Exchange → Type 0
HasHistory x = ∥ ((h : ExchangeHistory) × IsAtItsStage x h) ∥₁

-- the bytes that its client is to be sent next
abbrev pub to_client : Exchange → List ℕ
to_client (Asking a) = []
to_client (Waiting w) = []
to_client (Dialing d) = []
to_client (Forwarding p) = p.down.out
to_client (Settling s) = s.out.out
to_client (Leaving l) = l.out.out
to_client (Telling t) = t.rest.now
to_client Over = []

-- and those for its server
abbrev pub to_server : Exchange → List ℕ
to_server (Asking a) = []
to_server (Waiting w) = []
to_server (Dialing d) = []
to_server (Forwarding p) = p.up.out
to_server (Settling s) = []
to_server (Leaving l) = []
to_server (Telling t) = []
to_server Over = []

-- more of the client's bytes are taken
abbrev pub reads_client : Exchange → Bool
reads_client (Asking a) = true
reads_client (Waiting w) = false
reads_client (Dialing d) = false
reads_client (Forwarding p) = takes_request p
reads_client (Settling s) = false
reads_client (Leaving l) = false
reads_client (Telling t) = false
reads_client Over = false

-- more of the server's bytes are taken
abbrev pub reads_server : Exchange → Bool
reads_server (Asking a) = false
reads_server (Waiting w) = false
reads_server (Dialing d) = false
reads_server (Forwarding p) = takes_answer p
reads_server (Settling s) = false
reads_server (Leaving l) = false
reads_server (Telling t) = false
reads_server Over = false

-- bytes are to be sent to a server that takes them
abbrev pub writes_server : Exchange → Bool
writes_server (Asking a) = false
writes_server (Waiting w) = false
writes_server (Dialing d) = false
writes_server (Forwarding p) = sends_request p
writes_server (Settling s) = false
writes_server (Leaving l) = false
writes_server (Telling t) = false
writes_server Over = false

-- no more of an event is taken than there is: bytes, one pass, one connection, or nothing
abbrev pub TakesNoMore : Event → ℕ → Type 0
TakesNoMore (Events.ClientBytes input) used = used ≤ length input.now
TakesNoMore (Events.ServerBytes input) used = used ≤ length input.now
TakesNoMore (Events.ClientTook count) used = used ≤ count
TakesNoMore (Events.ServerTook count) used = used ≤ count
TakesNoMore (Events.Granted pass) used = used ≤ 1
TakesNoMore (Events.Connected terms) used = used ≤ 1
TakesNoMore event used = used ≡ 0

-- an exchange ends when its client sends no more: where its request isn't whole, or where the rules say so
abbrev pub is_left : Bool → Exchange → Bool
is_left aborts (Asking a) = true
is_left aborts (Waiting w) = aborts
is_left aborts (Dialing d) = aborts
is_left aborts (Forwarding p) = aborts || not (is_done p.up.coding)
is_left aborts (Settling s) = false
is_left aborts (Leaving l) = false
is_left aborts (Telling t) = false
is_left aborts Over = false

-- a client that sends no more is given up, or nothing changes
pub record IsRuled (aborts : Bool) (x : Exchange) (event : Event) (next : Exchange) : Type 0 where
  pub leaves : event ≡ Events.ClientEnd → is_left aborts x ≡ true → next ≡ Over
  pub stays : event ≡ Events.ClientEnd → is_left aborts x ≡ false → next ≡ x

-- which timeout runs where both sides are active, by whether bytes wait for each, and whether the
-- request is whole: that of the side that is waited for
abbrev pub forwarding_clock : Bool → Bool → Bool → TimeoutKind
forwarding_clock true for_server asked = Clocks.Client
forwarding_clock false true asked = Clocks.Server
forwarding_clock false false true = Clocks.Server
forwarding_clock false false false = Clocks.Client

abbrev pub waits : List ℕ → Bool
waits [] = false
waits (b ∷ bytes) = true

-- which timeout runs
abbrev pub clock_of : Exchange → Option TimeoutKind
clock_of (Asking a) = Some Clocks.Client
clock_of (Waiting w) = Some Clocks.Queue
clock_of (Dialing d) = Some Clocks.Connect
clock_of (Forwarding p) = Some (if p.dialing then Clocks.Connect else forwarding_clock (waits p.down.out) (waits p.up.out) (is_done p.up.coding))
clock_of (Settling s) = Some Clocks.Client
clock_of (Leaving l) = Some Clocks.Client
clock_of (Telling t) = Some Clocks.Client
clock_of Over = None

-- the sign of an expired timeout
abbrev pub over : TimeoutKind → Sign
over Clocks.Client = Signs.ClientOver
over Clocks.Queue = Signs.QueueOver
over Clocks.Connect = Signs.ConnectOver
over Clocks.Server = Signs.ServerOver

-- a pass counts where it was taken
abbrev pub came_pass : ℕ → Grant → ExchangeHistory → ExchangeHistory
came_pass zero pass h = h
came_pass (suc n) pass h = granted h pass

-- the additions to a request for a connection count where its head was made for it
abbrev pub connected_with : ℕ → Additions → ExchangeHistory → ExchangeHistory
connected_with zero adds h = h
connected_with (suc n) adds h = connected_on h adds

-- the history after an event of which this much was taken; the bytes that a side took count as sent
abbrev pub heard : Exchange → Event → ℕ → ExchangeHistory → ExchangeHistory
heard x (Events.ClientBytes input) used h = client_came h (take used input.now)
heard x (Events.ServerBytes input) used h = server_came h (take used input.now)
heard x (Events.ClientTook count) used h = client_got h (take count (to_client x))
heard x (Events.ServerTook count) used h = server_got h (take count (to_server x))
heard x (Events.Granted pass) used h = came_pass used pass h
heard x Events.Unserved used h = signed h Signs.Unserved
heard x (Events.Connected terms) used h = connected_with used terms.adds h
heard x Events.Unreachable used h = signed h Signs.Unreachable
heard x Events.ClientEnd used h = signed h Signs.ClientEnded
heard x Events.ClientFailed used h = signed h Signs.ClientFailed
heard x Events.ServerEnd used h = signed h Signs.ServerEnded
heard x Events.ServerFailed used h = signed h Signs.ServerFailed
heard x Events.ServerDeaf used h = signed h Signs.ServerDeaf
heard x (Events.TimeOver clock) used h = signed h (over clock)

-- the history after an outcome
abbrev pub ended : Outcome → ExchangeHistory → ExchangeHistory
ended Outcomes.Quiet h = h
ended (Outcomes.Posts pass ending) h = posted h pass ending
ended Outcomes.Starved h = signed h Signs.NoMemory
ended (Outcomes.StarvedPosts pass ending) h = posted (signed h Signs.NoMemory) pass ending
ended Outcomes.Retries h = retried h
ended (Outcomes.Returns pass) h = h

-- a pass is posted as failed exactly where another one is waited for, and no pass that was just
-- handed in is returned
abbrev pub FailsInTurn : Outcome → Exchange → Type 0
FailsInTurn (Outcomes.Posts pass Failed) (Waiting w) = Unit {0}
FailsInTurn (Outcomes.Posts pass Failed) x = ⊥
FailsInTurn (Outcomes.Posts pass Done) (Waiting w) = ⊥
FailsInTurn (Outcomes.StarvedPosts pass Failed) x = ⊥
FailsInTurn (Outcomes.Returns pass) x = ⊥
FailsInTurn outcome x = Unit {0}

-- no pass that was just handed in is returned
abbrev pub IsOwn : Outcome → Type 0
IsOwn (Outcomes.Returns pass) = ⊥
IsOwn outcome = Unit {0}

-- a pass that was just handed in may be returned
abbrev pub MayReturn : Outcome → Exchange → Type 0
MayReturn (Outcomes.Returns pass) x = Unit {0}
MayReturn outcome x = FailsInTurn outcome x

-- the same, by the event
abbrev pub TellsInTurn : Event → Outcome → Exchange → Type 0
TellsInTurn (Events.Granted pass) outcome x = MayReturn outcome x
TellsInTurn event outcome x = FailsInTurn outcome x

abbrev pub IsOwnOf : Event → Outcome → Type 0
IsOwnOf (Events.Granted pass) outcome = Unit {0}
IsOwnOf event outcome = IsOwn outcome

abbrev pub history_after : Exchange → Event → ℕ → Outcome → ExchangeHistory → ExchangeHistory
history_after x event used outcome h = ended outcome (heard x event used h)
