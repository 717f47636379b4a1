-- The stages in which an exchange takes bytes.
use Rattle.std.specs.Prelude.{Bool, true, false}
use Rattle.exchange_events.specs.declared.exchange.Exchange.{Exchange}
use Rattle.exchange_events.specs.declared.exchange.Exchange.TheVariants.{Asking, Waiting, Dialing, Forwarding, Settling, Leaving, Telling, Over}

-- in this stage its client may bring more bytes of a request
abbrev pub takes_from_client : Exchange → Bool
takes_from_client (Asking a) = true
takes_from_client (Waiting w) = false
takes_from_client (Dialing d) = false
takes_from_client (Forwarding p) = true
takes_from_client (Settling s) = false
takes_from_client (Leaving l) = false
takes_from_client (Telling t) = false
takes_from_client Over = false

-- and in this one its server more of an answer
abbrev pub takes_from_server : Exchange → Bool
takes_from_server (Asking a) = false
takes_from_server (Waiting w) = false
takes_from_server (Dialing d) = false
takes_from_server (Forwarding p) = true
takes_from_server (Settling s) = false
takes_from_server (Leaving l) = false
takes_from_server (Telling t) = false
takes_from_server Over = false
