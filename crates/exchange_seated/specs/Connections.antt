-- An exchange and its server's connection (RFC 9112, section 9.3): the exchanges that owned it
-- before, and the bytes that went over it.
use Rattle.std.specs.Prelude.{◌≡◌, ◌≢◌, ◌⊎◌, ℕ, true, false, List, [], ◌∷◌, ◌++◌, Option, Some, None}
use Rattle.std.specs.Io.KnownBytes.{Appends, Consumes}
use Rattle.std.specs.List.{flat_map, AllByRecursion}
use Rattle.grant_board.specs.Views.{Grant}
use Rattle.http_texts.specs.declared.persistence.Persistence.TheVariants.{Persist}
use Rattle.exchange_machine.specs.Headline.{ToServer}
use Rattle.exchange_machine.specs.Histories.{ExchangeHistory}
use Rattle.exchange_machine.specs.Stages.{IsUnsent}
use Rattle.exchange_machine.specs.Wholes.{Whole, IsWhole, EndsClean, forwarded_of, answer_of_server}
use Rattle.exchange_events.specs.Chains.{takes_used}
use Rattle.exchange_events.specs.Passes.{held_by}
use Rattle.exchange_events.specs.Steps.{IsAtItsStage}
use Rattle.exchange_events.specs.declared.exchange.Exchange.{Exchange}
use Rattle.exchange_driver.specs.Answers.{SocketAnswer, Heard, with_answers}
use Rattle.exchange_driver.specs.Wires.{Wire}
use Rattle.exchange_driver.specs.declared.socket.ReadResult.{ReadResult}
use Rattle.exchange_driver.specs.declared.socket.ReadResult.TheVariants.{Nothing}
use Rattle.exchange_seated.specs.Seats.{server_of}

-- the server may be asked again afterwards: it was asked to keep its connection open, and does
pub record IsOpenToServer (w : Whole) : Type 0 where
  pub asks : w.adds.asks ≡ Persist
  pub kept : w.kept ≡ true

-- The bytes sent to a server are the forwarded texts of the requests that owned its connection one
-- after another, each whole before the next begins, none left out and none twice, and then a front
-- of that of the request that owns it; the bytes from it are their answers one after another, each
-- whole, and then those for that request.
pub record SentInOrder (before : List Whole) (now : ExchangeHistory) (sent came : List ℕ) : Type 0 where
  pub each : AllByRecursion IsWhole before
  pub stays : AllByRecursion IsOpenToServer before
  pub sent_is : sent ≡ flat_map forwarded_of before ++ now.to_server
  pub came_is : came ≡ flat_map answer_of_server before ++ now.server_in
  pub last : ToServer now

-- After these exchanges this one owns the connection: since its socket was opened, the socket took
-- the bytes sent to the server in order, and gave the bytes from it, or has them still to give.
pub record IsServedOn (opened : Wire) (before : List Whole) (x : Exchange) (now : Wire) : Type 0 where
  pub history : ExchangeHistory
  pub at : IsAtItsStage x history
  pub sent : List ℕ
  pub came : List ℕ
  pub order : SentInOrder before history sent came
  pub took : Appends opened.taken now.taken sent
  pub gave : Consumes opened.left now.left (came ++ now.waits)

-- the same, for some history of that exchange
abbrev pub IsOn : Wire → List Whole → Exchange → Wire → Type 0
IsOn opened before x now = ∥ IsServedOn opened before x now ∥₁

-- After these exchanges no exchange owns the connection: since its socket was opened, the socket
-- took their forwarded texts, each whole, and no byte more, and gave their answers, each whole, and
-- no byte more.
pub record IsBehind (opened : Wire) (before : List Whole) (taken left : Option (List ℕ)) : Type 0 where
  pub each : AllByRecursion IsWhole before
  pub stays : AllByRecursion IsOpenToServer before
  pub took : Appends opened.taken taken (flat_map forwarded_of before)
  pub gave : Consumes opened.left left (flat_map answer_of_server before)

-- the exchange ended clean, and is the last one of them
pub record IsLeftBy (opened : Wire) (before : List Whole) (x : Exchange) (taken left : Option (List ℕ)) : Type 0 where
  pub history : ExchangeHistory
  pub at : IsAtItsStage x history
  pub out : List ℕ
  pub clean : EndsClean history out
  pub behind : IsBehind opened (before ++ clean.whole ∷ []) taken left

abbrev pub IsLeft : Wire → List Whole → Exchange → Option (List ℕ) → Option (List ℕ) → Type 0
IsLeft opened before x taken left = ∥ IsLeftBy opened before x taken left ∥₁

-- an exchange that holds a pass has sent nothing to a server yet, and nothing has come from one
abbrev pub IsUnsentYet : Exchange → Type 0
IsUnsentYet x = held_by x ≢ [] → ∥ ((h : ExchangeHistory) × IsAtItsStage x h × IsUnsent h) ∥₁

-- the server is that of the pass, where one is held
abbrev pub IsFor : ℕ → List Grant → Type 0
IsFor server passes = passes ≢ [] → server_of passes ≡ Some server

-- no pass is held any more, or the same one
abbrev pub StillHolds : List Grant → List Grant → Type 0
StillHolds old new = (new ≡ []) ⊎ (new ≡ old)

-- it has a connection already, or holds no pass for a server
abbrev pub WantsNone : Exchange → Wire → Type 0
WantsNone x line = (line.there ≡ true) ⊎ (server_of (held_by x) ≡ None)

-- it wants no used connection to this server: none at all, or one to another server, or its request
-- may not go out on a used one
abbrev pub WantsNoUsed : ℕ → Exchange → Wire → Type 0
WantsNoUsed server x line = WantsNone x line ⊎ (server_of (held_by x) ≢ Some server) ⊎ (takes_used x ≡ false)

-- a read found something: bytes, or an end
abbrev pub HasSpoken : Option (List SocketAnswer) → Option (List SocketAnswer) → Type 0
HasSpoken before behind = (answer : ReadResult) × (answer ≢ Nothing) × (behind ≡ with_answers (Heard answer ∷ []) before)
