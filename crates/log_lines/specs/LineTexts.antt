-- The text of a line's parts.
use Rattle.std.specs.Prelude.{ℕ, Bool, true, false, List, ◌++◌, ◌∷◌, [], Option, codes}
use Rattle.std.specs.Fmt.{decimal}
use Rattle.std.specs.Option.{option_map_or}
use Rattle.log_lines.specs.Letters.{by_letter, during_letter}
use Rattle.log_lines.specs.declared.events.CheckFailure.{CheckFailure}
use Rattle.log_lines.specs.declared.events.CheckFailure.TheVariants.{NoAddress, Refused, Late, Failed}
use Rattle.log_lines.specs.declared.fields.Load.{Load}
use Rattle.log_lines.specs.declared.fields.Spans.{Spans}
use Rattle.log_lines.specs.declared.letters.ExchangeEnd.{ExchangeEnd}

-- a number, or -1 where there is none
abbrev pub number_text : Option ℕ → List ℕ
number_text number = option_map_or decimal number (codes "-1")

-- the times of a line, with slashes between them
abbrev pub times_text : Spans → List ℕ
times_text spans =
    number_text spans.request ++ codes "/" ++ number_text spans.wait ++ codes "/" ++ number_text spans.connect ++ codes "/" ++ number_text spans.answer ++ codes "/"
    ++ decimal spans.all ++ codes " "

-- the status that a client was sent, the number of bytes, and both letters of the end
abbrev pub outcome_text : Option ℕ → ℕ → ExchangeEnd → List ℕ
outcome_text status sent end =
    number_text status ++ codes " " ++ decimal sent ++ codes " - - " ++ (by_letter end.by ∷ during_letter end.during ∷ []) ++ codes "-- "

-- a plus where a request was given more than one slot
abbrev pub sign_text : Bool → List ℕ
sign_text true = codes "+"
sign_text false = []

-- the number of clients, twice, and of the requests at all servers and at its own
abbrev pub counts_text : ℕ → Load → List ℕ
counts_text clients load = decimal clients ++ codes "/" ++ decimal clients ++ codes "/" ++ decimal load.all ++ codes "/" ++ decimal load.own ++ codes "/"

-- the number of further tries, with its sign, and of the requests that went before it in both queues
abbrev pub tries_text : Bool → ℕ → ℕ × ℕ → List ℕ
tries_text redispatched retries ahead =
    sign_text redispatched ++ decimal retries ++ codes " " ++ decimal ahead.0 ++ codes "/" ++ decimal ahead.1 ++ codes " "

-- why a check failed
abbrev pub failure_words : CheckFailure → List ℕ
failure_words NoAddress = codes "its name has no address"
failure_words Refused = codes "connection refused"
failure_words Late = codes "no connection in time"
failure_words Failed = codes "no connection"
