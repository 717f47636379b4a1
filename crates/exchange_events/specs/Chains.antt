-- Requests one after another on a client's connection.
use Rattle.std.specs.Prelude.{◌≡◌, ◌≢◌, ◌⊎◌, ℕ, Bool, true, false, List, []}
use Rattle.http_texts.specs.declared.persistence.Persistence.TheVariants.{Close}
use Rattle.exchange_machine.specs.Histories.{ExchangeHistory, signed}
use Rattle.exchange_machine.specs.Repeatables.{takes_used as goes_used}
use Rattle.exchange_machine.specs.Wants.{is_none}
use Rattle.exchange_machine.specs.Wholes.{Whole, Ends, begun}
use Rattle.exchange_machine.specs.declared.signs.Sign.TheVariants as Signs
use Rattle.exchange_events.specs.Steps.{IsAtItsStage}
use Rattle.exchange_events.specs.declared.exchange.Exchange.{Exchange}
use Rattle.exchange_events.specs.declared.exchange.Exchange.TheVariants.{Asking, Waiting, Dialing, Forwarding, Settling, Leaving, Telling, Over}

-- its client may ask again: both messages were whole, both sides agreed to keep the connection
-- open, and the client was sent the whole answer
abbrev pub may_ask_again : Exchange → Bool
may_ask_again (Asking a) = false
may_ask_again (Waiting w) = false
may_ask_again (Dialing d) = false
may_ask_again (Forwarding p) = false
may_ask_again (Settling s) = is_none s.out.out
may_ask_again (Leaving l) = false
may_ask_again (Telling t) = false
may_ask_again Over = false

-- a new exchange with these bytes from its client, to which nothing else has happened, except that
-- memory for it may be short
pub record IsBegun (x : Exchange) (bytes : List ℕ) : Type 0 where
  pub now : ExchangeHistory
  pub is : (now ≡ begun bytes) ⊎ (now ≡ signed (begun bytes) Signs.NoMemory)
  pub at : IsAtItsStage x now

-- The exchange with this history was whole, and its client was sent all its bytes and told that it
-- may ask again; the next exchange begins with the bytes after its request.
pub record IsNext (h : ExchangeHistory) (next : Exchange) : Type 0 where
  pub whole : Whole
  pub behind : List ℕ
  pub unsent : List ℕ
  pub extra : List ℕ
  pub ends : Ends h whole behind [] unsent extra
  pub left_open : whole.says ≢ Close
  pub begins : IsBegun next behind

-- its client is sent the whole answer of its server
abbrev pub is_answered : Exchange → Bool
is_answered (Asking a) = false
is_answered (Waiting w) = false
is_answered (Dialing d) = false
is_answered (Forwarding p) = false
is_answered (Settling s) = true
is_answered (Leaving l) = l.whole
is_answered (Telling t) = false
is_answered Over = false

-- no byte has come from its client yet
abbrev pub is_silent : Exchange → Bool
is_silent (Asking a) = is_none a.held.items
is_silent (Waiting w) = false
is_silent (Dialing d) = false
is_silent (Forwarding p) = false
is_silent (Settling s) = false
is_silent (Leaving l) = false
is_silent (Telling t) = false
is_silent Over = false

-- its server's connection can be used again: both messages were whole, the request was sent whole,
-- nothing came after the answer, and both sides agreed to keep the connection open
abbrev pub is_clean : Exchange → Bool
is_clean (Asking a) = false
is_clean (Waiting w) = false
is_clean (Dialing d) = false
is_clean (Forwarding p) = false
is_clean (Settling s) = s.clean
is_clean (Leaving l) = l.clean
is_clean (Telling t) = false
is_clean Over = false

-- its request may go out on a used connection
abbrev pub takes_used : Exchange → Bool
takes_used (Asking a) = false
takes_used (Waiting w) = false
takes_used (Dialing d) = goes_used d
takes_used (Forwarding p) = false
takes_used (Settling s) = false
takes_used (Leaving l) = false
takes_used (Telling t) = false
takes_used Over = false
