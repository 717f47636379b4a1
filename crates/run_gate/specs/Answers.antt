-- The knowledge of a name's address.
use Rattle.std.specs.Prelude.{Option, Some, None}
use Rattle.std.specs.declared.net.socket_addr.SocketAddr.{SocketAddr}
use Rattle.run_gate.specs.declared.answer.Answer.{Answer}
use Rattle.run_gate.specs.declared.answer.Answer.TheVariants.{Nothing, Failed, At}

-- the answer of a look-up with this result
abbrev pub answer_of : Option SocketAddr → Answer
answer_of None = Failed
answer_of (Some address) = At address

-- the address of an answer: none where there is no answer yet, or the look-up failed
abbrev pub address_in : Answer → Option SocketAddr
address_in Nothing = None
address_in Failed = None
address_in (At address) = Some address
