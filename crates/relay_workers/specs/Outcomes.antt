-- The outcome for a client, by the fault that was met or by the cause that its request was told.
use Rattle.base_verdict.specs.declared.Cause.{Cause}
use Rattle.base_verdict.specs.declared.Cause.TheVariants.{Aborted}
use Rattle.http_texts.specs.declared.fault.Fault.{Fault}
use Rattle.http_texts.specs.declared.fault.Fault.TheVariants.{NoMemory, Head, Framing, Read, Write}
use Rattle.http_texts.specs.declared.refusals.Code.TheVariants.{BadRequest, BadGateway, Unavailable}
use Rattle.relay_workers.specs.declared.outcome.Outcome.{Outcome}
use Rattle.relay_workers.specs.declared.outcome.Outcome.TheVariants.{Refused, Cut}

-- where the head of its request wasn't read: 400 where it isn't one that the proxy accepts, 503
-- where there was no memory, otherwise nothing
abbrev pub after_reading : Fault → Outcome
after_reading Head = Refused BadRequest
after_reading Framing = Refused BadRequest
after_reading NoMemory = Refused Unavailable
after_reading fault = Cut

-- where its request wasn't handed on: 400 where its body is unsound, nothing where the client sent
-- no more, 502 where the server took no more
abbrev pub after_forwarding : Fault → Outcome
after_forwarding Framing = Refused BadRequest
after_forwarding Read = Cut
after_forwarding fault = Refused BadGateway

-- where no byte of an answer was handed on: nothing where the client took none, 503 where there was
-- no memory, 502 where the server sent none
abbrev pub after_answering : Fault → Outcome
after_answering Write = Cut
after_answering NoMemory = Refused Unavailable
after_answering fault = Refused BadGateway

-- where it has no slot: nothing where it gave up, otherwise 503
abbrev pub after_telling : Cause → Outcome
after_telling Aborted = Cut
after_telling cause = Refused Unavailable
