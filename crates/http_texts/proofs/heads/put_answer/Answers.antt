use Rattle.std.proofs.Common.{ap}
use Rattle.http_bodies.proofs.Exits.{at_exit}
use Rattle.http_texts.specs.Texts.{end_text, stated}
use Rattle.http_texts.proofs.Putting.{puts_trans, puts_halts, halts_front, puts_as, halts_as}
use Rattle.http_texts.proofs.heads.put_answer.Goals as goal

pub returns-in_err-put_answer_lines-clause-err : goal.returns-in_err-put_answer_lines-clause-err
returns-in_err-put_answer_lines-clause-err g c =
    at_exit _ _ _ c.from_residual.ensures.1 (halts_front (end_text c.args.wording.says
    (stated c.args.wording.framed c.args.wording.plan.stated)) c.in_err-put_answer_lines.ensures.err)

pub returns-in_err-put_end-clause-err : goal.returns-in_err-put_end-clause-err
returns-in_err-put_end-clause-err g c =
    at_exit _ _ _ c.from_residual-in_err-put_end.ensures.1 (puts_halts c.in_ok-put_answer_lines.ensures.ok (halts_as
    (ap (end_text c.args.wording.says) c.stated-framing.ensures) c.in_err-put_end.ensures.err))

pub returns-clause-ok : goal.returns-clause-ok
returns-clause-ok g c = puts_trans c.in_ok-put_answer_lines.ensures.ok (puts_as (ap (end_text c.args.wording.says) c.stated-framing.ensures) c.in_ok-put_end.ensures.ok)
