-- A page says of a fault what the pipe says.
use Rattle.http_bodies.proofs.Exits.{at_exit}
use Rattle.http_texts.proofs.lines.put.Goals as goal

pub returns-in_err-put-clause-err : goal.returns-in_err-put-clause-err
returns-in_err-put-clause-err g c =
    at_exit _ _ _ c.from_residual.ensures.1 (record { stops = c.in_err-put.ensures.err.0; inbox = c.in_err-put.ensures.inbox })
