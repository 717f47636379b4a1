-- Numbers of clients, each of which saturates at its greatest value.
use Rattle.std.specs.Prelude.{ℕ, ◌+◌, ◌-◌, ◌^◌, min, List, [], ◌∷◌, Result, Ok, Err}
use Rattle.http_texts.specs.declared.refusals.Code.TheVariants.{BadRequest, BadGateway, Unavailable}
use Rattle.relay_workers.specs.declared.outcome.Outcome.{Outcome}
use Rattle.relay_workers.specs.declared.outcome.Outcome.TheVariants.{Answered, Refused, Cut}
use Rattle.relay_workers.specs.declared.tally.Tally.{Tally}
use Rattle.relay_workers.specs.declared.stopping.Stopped.{Stopped}

abbrev pub plus : ℕ → ℕ → ℕ
plus a b = min (a + b) (2 ^ 64 - 1)

-- one more client
abbrev pub counted : Tally → Tally
counted t = record t { clients = plus t.clients 1 }

-- one more client with this outcome
abbrev pub tally_noted : Outcome → Tally → Tally
tally_noted Answered t = record (counted t) { answered = plus t.answered 1 }
tally_noted (Refused BadRequest) t = record (counted t) { bad_requests = plus t.bad_requests 1 }
tally_noted (Refused BadGateway) t = record (counted t) { bad_gateways = plus t.bad_gateways 1 }
tally_noted (Refused Unavailable) t = record (counted t) { unavailable = plus t.unavailable 1 }
tally_noted Cut t = counted t

-- no client
abbrev pub no_clients : Tally
no_clients = record { clients = 0; answered = 0; bad_requests = 0; bad_gateways = 0; unavailable = 0 }

-- the tally with these outcomes noted, one after the other
abbrev pub all_noted : Tally → List Outcome → Tally
all_noted t [] = t
all_noted t (outcome ∷ outcomes) = all_noted (tally_noted outcome t) outcomes

abbrev pub together : Tally → Tally → Tally
together a b = record {
  clients = plus a.clients b.clients;
  answered = plus a.answered b.answered;
  bad_requests = plus a.bad_requests b.bad_requests;
  bad_gateways = plus a.bad_gateways b.bad_gateways;
  unavailable = plus a.unavailable b.unavailable;
}

-- the result of two threads: the sum, or why the first one stopped that did
abbrev pub of_both : Result Tally Stopped → Result Tally Stopped → Result Tally Stopped
of_both (Ok a) (Ok b) = Ok (together a b)
of_both (Ok a) (Err stopped) = Err stopped
of_both (Err stopped) other = Err stopped
