use Rattle.http_bodies.proofs.Exits.{at_exit}
use Rattle.http_texts.proofs.Putting.{puts_trans, puts_halts, halts_front}
use Rattle.std.proofs.Common.{◌++◌}
use Rattle.http_texts.proofs.lines.put_three.Goals as goal

pub returns-in_err-put-clause-err : goal.returns-in_err-put-clause-err
returns-in_err-put-clause-err g c = at_exit _ _ _ c.from_residual.ensures.1 (halts_front (c.args.second.now ++ c.args.third.now) c.in_err-put.ensures.err)

pub returns-in_err-put-2-clause-err : goal.returns-in_err-put-2-clause-err
returns-in_err-put-2-clause-err g c =
    at_exit _ _ _ c.from_residual-in_err-put-2.ensures.1 (puts_halts c.in_ok-put.ensures.ok (halts_front c.args.third.now c.in_err-put-2.ensures.err))

pub returns-in_err-put-3-clause-err : goal.returns-in_err-put-3-clause-err
returns-in_err-put-3-clause-err g c =
    at_exit _ _ _ c.from_residual-in_err-put-3.ensures.1 (puts_halts c.in_ok-put.ensures.ok (puts_halts c.in_ok-put-2.ensures.ok c.in_err-put-3.ensures.err))

pub returns-clause-ok : goal.returns-clause-ok
returns-clause-ok g c = puts_trans c.in_ok-put.ensures.ok (puts_trans c.in_ok-put-2.ensures.ok c.in_ok-put-3.ensures.ok)
