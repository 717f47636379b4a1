-- A server's connection (RFC 9112, section 9.3): exchanges that ended on it and left nothing unread
-- there, one after another, and one that owns it.
use Rattle.std.specs.Prelude.{◌≢◌, ℕ, List, [], ◌∷◌, ◌++◌, take}
use Rattle.exchange_machine.specs.Histories.{ExchangeHistory}
use Rattle.exchange_machine.specs.Stages.{IsUnsent}
use Rattle.exchange_machine.specs.Wholes.{Whole, EndsClean}
use Rattle.exchange_events.specs.Steps.{IsAtItsStage, history_after, to_server}
use Rattle.exchange_events.specs.declared.event.Event.{Event}
use Rattle.exchange_events.specs.declared.event.Event.TheVariants as Events
use Rattle.exchange_events.specs.declared.exchange.Exchange.{Exchange}
use Rattle.exchange_events.specs.declared.exchange.Outcome.{Outcome}
use Rattle.exchange_events.specs.declared.exchange.Outcome.TheVariants as Outcomes

-- the bytes that the server takes with an event
abbrev pub bytes_sent : Exchange → Event → List ℕ
bytes_sent x (Events.ClientBytes input) = []
bytes_sent x (Events.ServerBytes input) = []
bytes_sent x (Events.ClientTook count) = []
bytes_sent x (Events.ServerTook count) = take count (to_server x)
bytes_sent x (Events.Granted pass) = []
bytes_sent x Events.Unserved = []
bytes_sent x (Events.Connected terms) = []
bytes_sent x Events.Unreachable = []
bytes_sent x Events.ClientEnd = []
bytes_sent x Events.ClientFailed = []
bytes_sent x Events.ServerEnd = []
bytes_sent x Events.ServerFailed = []
bytes_sent x Events.ServerDeaf = []
bytes_sent x (Events.TimeOver clock) = []

-- the bytes that come from the server with an event, of which the exchange took this many
abbrev pub bytes_come : Event → ℕ → List ℕ
bytes_come (Events.ClientBytes input) used = []
bytes_come (Events.ServerBytes input) used = take used input.now
bytes_come (Events.ClientTook count) used = []
bytes_come (Events.ServerTook count) used = []
bytes_come (Events.Granted pass) used = []
bytes_come Events.Unserved used = []
bytes_come (Events.Connected terms) used = []
bytes_come Events.Unreachable used = []
bytes_come Events.ClientEnd used = []
bytes_come Events.ClientFailed used = []
bytes_come Events.ServerEnd used = []
bytes_come Events.ServerFailed used = []
bytes_come Events.ServerDeaf used = []
bytes_come (Events.TimeOver clock) used = []

-- A connection has had the exchanges `before` and belongs to this exchange with this history; the
-- server has taken this output and sent this input in all. An exchange has a new connection before
-- it has sent anything to a server or got anything from one. It keeps the connection over each
-- step, except one that gives it up for another, which is then a new one. Where the exchange ends
-- clean (`is_clean`), another exchange that has sent nothing yet may own the connection from then
-- on.
pub data ServerConnection : List Whole → Exchange → ExchangeHistory → List ℕ → List ℕ → Type 0 where
  opens : (x : Exchange) (h : ExchangeHistory) → IsAtItsStage x h → IsUnsent h → ServerConnection [] x h [] []
  goes_on : (before : List Whole) (x y : Exchange) (h : ExchangeHistory) (sent came : List ℕ) (event : Event) (used : ℕ) (outcome : Outcome)
      → ServerConnection before x h sent came → outcome ≢ Outcomes.Retries → IsAtItsStage y (history_after x event used outcome h)
      → ServerConnection before y (history_after x event used outcome h) (sent ++ bytes_sent x event) (came ++ bytes_come event used)
  handed_on : (before : List Whole) (x y : Exchange) (h next : ExchangeHistory) (sent came out : List ℕ) → ServerConnection before x h sent came
      → (clean : EndsClean h out) → IsAtItsStage y next → IsUnsent next → ServerConnection (before ++ clean.whole ∷ []) y next sent came
