use Rattle.std.proofs.Common.{List, ap}
use Rattle.http_bodies.proofs.Exits.{at_exit}
use Rattle.http_texts.specs.Fields.{kept, of_connection}
use Rattle.http_texts.specs.Texts.{fields_text}
use Rattle.http_texts.proofs.Putting.{puts_trans, puts_halts, halts_front, puts_as, halts_as}
use Rattle.req_view.specs.Request.{NamedValue}
use Rattle.http_texts.proofs.heads.put_answer_lines.Goals as goal

pub returns-in_err-put_status_line-clause-err : goal.returns-in_err-put_status_line-clause-err
returns-in_err-put_status_line-clause-err g c =
    at_exit _ _ _ c.from_residual.ensures.1 (halts_front (fields_text (kept of_connection c.args.head.now.fields)) c.in_err-put_status_line.ensures.err)

pub returns-in_err-put_fields-clause-err : goal.returns-in_err-put_fields-clause-err
returns-in_err-put_fields-clause-err g c =
    at_exit _ _ _ c.from_residual-in_err-put_fields.ensures.1 (puts_halts c.in_ok-put_status_line.ensures.ok (halts_as (ap
    (λ (fields : List NamedValue). fields_text (kept of_connection fields)) c.section.ensures) c.in_err-put_fields.ensures.err))

pub returns-clause-ok : goal.returns-clause-ok
returns-clause-ok g c =
    puts_trans c.in_ok-put_status_line.ensures.ok (puts_as (ap (λ (fields : List NamedValue). fields_text
    (kept of_connection fields)) c.section.ensures) c.in_ok-put_fields.ensures.ok)
