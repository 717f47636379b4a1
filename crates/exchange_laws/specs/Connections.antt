-- A client's connection (RFC 9112, section 9.3): ended exchanges, one after another, and one that runs.
use Rattle.std.specs.Prelude.{ℕ, List, [], ◌∷◌, ◌++◌, take}
use Rattle.exchange_machine.specs.Histories.{ExchangeHistory, nothing_yet}
use Rattle.exchange_machine.specs.Wholes.{Whole}
use Rattle.exchange_events.specs.Chains.{IsNext}
use Rattle.exchange_events.specs.Steps.{IsAtItsStage, history_after, to_client}
use Rattle.exchange_events.specs.declared.event.Event.{Event}
use Rattle.exchange_events.specs.declared.event.Event.TheVariants as Events
use Rattle.exchange_events.specs.declared.exchange.Exchange.{Exchange}
use Rattle.exchange_events.specs.declared.exchange.Outcome.{Outcome}

-- the bytes that come from the client with an event, of which the exchange took this many
abbrev pub bytes_in : Event → ℕ → List ℕ
bytes_in (Events.ClientBytes input) used = take used input.now
bytes_in (Events.ServerBytes input) used = []
bytes_in (Events.ClientTook count) used = []
bytes_in (Events.ServerTook count) used = []
bytes_in (Events.Granted pass) used = []
bytes_in Events.Unserved used = []
bytes_in (Events.Connected terms) used = []
bytes_in Events.Unreachable used = []
bytes_in Events.ClientEnd used = []
bytes_in Events.ClientFailed used = []
bytes_in Events.ServerEnd used = []
bytes_in Events.ServerFailed used = []
bytes_in Events.ServerDeaf used = []
bytes_in (Events.TimeOver clock) used = []

-- the bytes that the client takes with an event
abbrev pub bytes_out : Exchange → Event → List ℕ
bytes_out x (Events.ClientBytes input) = []
bytes_out x (Events.ServerBytes input) = []
bytes_out x (Events.ClientTook count) = take count (to_client x)
bytes_out x (Events.ServerTook count) = []
bytes_out x (Events.Granted pass) = []
bytes_out x Events.Unserved = []
bytes_out x (Events.Connected terms) = []
bytes_out x Events.Unreachable = []
bytes_out x Events.ClientEnd = []
bytes_out x Events.ClientFailed = []
bytes_out x Events.ServerEnd = []
bytes_out x Events.ServerFailed = []
bytes_out x Events.ServerDeaf = []
bytes_out x (Events.TimeOver clock) = []

-- A connection has had the exchanges `before` and is at this exchange with this history; the client
-- has sent this input and taken this output in all. Each rule is what a call of `exchange_events`
-- ensures: `new`, `step` and `ask_again`.
pub data Connection : List Whole → Exchange → ExchangeHistory → List ℕ → List ℕ → Type 0 where
  begins : (x : Exchange) → IsAtItsStage x nothing_yet → Connection [] x nothing_yet [] []
  goes_on : (before : List Whole) (x y : Exchange) (h : ExchangeHistory) (input output : List ℕ) (event : Event) (used : ℕ) (outcome : Outcome)
      → Connection before x h input output → IsAtItsStage y (history_after x event used outcome h)
      → Connection before y (history_after x event used outcome h) (input ++ bytes_in event used) (output ++ bytes_out x event)
  asks_again : (before : List Whole) (x y : Exchange) (h : ExchangeHistory) (input output : List ℕ) → Connection before x h input output → (next : IsNext h y)
      → Connection (before ++ next.whole ∷ []) y next.begins.now input output
