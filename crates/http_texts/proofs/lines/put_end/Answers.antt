use Rattle.http_bodies.proofs.Exits.{at_exit}
use Rattle.http_texts.specs.Texts.{connection_text}
use Rattle.http_texts.proofs.Putting.{puts_trans, puts_halts, puts_as, halts_as, halts_front}
use Rattle.http_texts.proofs.lines.put_end.Goals as goal

pub returns-in_err-put_framing-clause-err : goal.returns-in_err-put_framing-clause-err
returns-in_err-put_framing-clause-err g c = at_exit _ _ _ c.from_residual.ensures.1 (halts_front
    (connection_text c.args.persistence) c.in_err-put_framing.ensures.err)

pub returns-in_err-put-clause-err : goal.returns-in_err-put-clause-err
returns-in_err-put-clause-err g c = at_exit _ _ _ c.from_residual-in_err-put.ensures.1 (puts_halts c.in_ok-put_framing.ensures.ok
    (halts_as c.connection_text.ensures c.in_err-put.ensures.err))

pub returns-clause-ok : goal.returns-clause-ok
returns-clause-ok g c = puts_trans c.in_ok-put_framing.ensures.ok (puts_as c.connection_text.ensures c.in_ok-put.ensures.ok)
