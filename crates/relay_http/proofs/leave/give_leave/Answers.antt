use Rattle.http_bodies.specs.Steps.{LacksNothing}
use Rattle.http_bodies.proofs.Exits.{at_exit}
use Rattle.http_texts.proofs.Putting.{halts_as}
use Rattle.relay_http.specs.Failures.{NoCause}
use Rattle.relay_http.proofs.Failing.{fails_put}
use Rattle.relay_http.proofs.leave.give_leave.Goals as goal

pub returns-in_err-send_text-clause-err : goal.returns-in_err-send_text-clause-err
returns-in_err-send_text-clause-err g c = λ s.
    at_exit _ _ _ c.from_residual.ensures.1 (fails_put s NoCause LacksNothing (halts_as c.given_leave.ensures c.in_err-send_text.ensures.err))
