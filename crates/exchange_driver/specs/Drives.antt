-- The effect of driving an exchange.
use Rattle.std.specs.Prelude.{◌≡◌, ◌≢◌, Bool, true, false, []}
use Rattle.exchange_machine.specs.Histories.{ExchangeHistory}
use Rattle.exchange_events.specs.Steps.{IsAtItsStage, ended, reads_client, reads_server, writes_server, to_client}
use Rattle.exchange_events.specs.declared.exchange.Exchange.{Exchange}
use Rattle.exchange_events.specs.declared.exchange.Outcome.{Outcome}
use Rattle.exchange_driver.specs.Wires.{Wire, Carries}
use Rattle.exchange_driver.specs.declared.moves.Did.{Did}
use Rattle.exchange_driver.specs.declared.moves.Did.TheVariants.{Rests, Client, Server, Tells}

-- no pass came or went, and the server's connection is the same
pub record AreSameTerms (h now : ExchangeHistory) : Type 0 where
  pub grants : now.grants ≡ h.grants
  pub posts : now.posts ≡ h.posts
  pub tries : now.tries ≡ h.tries
  pub adds : now.adds ≡ h.adds

-- The bytes that came from both sockets are those that the history says came from the client and
-- the server, except for the bytes that wait; the bytes that the sockets took are those that it
-- says both were sent. Afterwards the exchange is `next`, and has given this away.
pub record Drives (client_old client_new server_old server_new : Wire) (client_moved server_moved : Bool) (h : ExchangeHistory) (next : Exchange) (outcome : Outcome) : Type 0 where
  pub now : ExchangeHistory
  pub client : Carries client_old client_new h.client_in now.client_in h.to_client now.to_client client_moved
  pub server : Carries server_old server_new h.server_in now.server_in h.to_server now.to_server server_moved
  pub same : AreSameTerms h now
  pub at : IsAtItsStage next (ended outcome now)

-- the side at which a move moved bytes
abbrev pub at_client : Did → Bool
at_client Rests = false
at_client Client = true
at_client Server = false
at_client Tells = false

abbrev pub at_server : Did → Bool
at_server Rests = false
at_server Client = false
at_server Server = true
at_server Tells = false

-- nothing can be done for the answer: the client's socket was full at the last write, and nothing
-- was there at the last read from the server
pub record IsDownAtRest (x : Exchange) (client server : Wire) : Type 0 where
  pub writes : to_client x ≢ [] → client.full ≡ true
  pub reads : reads_server x ≡ true → (server.waits ≡ []) × (server.dry ≡ true)

-- nothing can be done for the request, in the same sense
pub record IsUpAtRest (x : Exchange) (client server : Wire) : Type 0 where
  pub writes : writes_server x ≡ true → server.full ≡ true
  pub reads : reads_client x ≡ true → (client.waits ≡ []) × (client.dry ≡ true)

-- nothing has changed
pub record IsSame (x y : Exchange) (client_old client_new server_old server_new : Wire) : Type 0 where
  pub exchange : y ≡ x
  pub client : client_new ≡ client_old
  pub server : server_new ≡ server_old
