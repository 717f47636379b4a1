use Rattle.std.proofs.Common.{◌++◌, codes}
use Rattle.http_bodies.proofs.Exits.{at_exit}
use Rattle.httparse.specs.Ascii.{crlf_bytes}
use Rattle.http_texts.proofs.Putting.{puts_trans, puts_halts, halts_front}
use Rattle.http_texts.proofs.lines.put_field.Goals as goal

pub returns-in_err-put-clause-err : goal.returns-in_err-put-clause-err
returns-in_err-put-clause-err g c =
    at_exit _ _ _ c.from_residual.ensures.1 (halts_front (codes ": " ++ (c.args.value.now ++ crlf_bytes)) c.in_err-put.ensures.err)

pub returns-in_err-put_three-clause-err : goal.returns-in_err-put_three-clause-err
returns-in_err-put_three-clause-err g c =
    at_exit _ _ _ c.from_residual-in_err-put_three.ensures.1 (puts_halts c.in_ok-put.ensures.ok c.in_err-put_three.ensures.err)

pub returns-clause-ok : goal.returns-clause-ok
returns-clause-ok g c = puts_trans c.in_ok-put.ensures.ok c.in_ok-put_three.ensures.ok
