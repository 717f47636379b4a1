use Rattle.http_bodies.proofs.Exits.{at_exit}
use Rattle.http_texts.proofs.lines.put_framing.Goals as goal

pub returns-in_err-put-in-Chunked-clause-err : goal.returns-in_err-put-in-Chunked-clause-err
returns-in_err-put-in-Chunked-clause-err g c =
    at_exit _ _ _ c.from_residual-in_err-put-in-Chunked.ensures.1 (rw c.in-Chunked.is c.in_err-put-in-Chunked.ensures.err)

pub returns-in_ok-put-in-Chunked-clause-ok : goal.returns-in_ok-put-in-Chunked-clause-ok
returns-in_ok-put-in-Chunked-clause-ok g c = rw c.in-Chunked.is c.in_ok-put-in-Chunked.ensures.ok
