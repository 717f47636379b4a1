use Rattle.std.proofs.Common.{List, ◌++◌, ap}
use Rattle.http_bodies.proofs.Exits.{at_exit}
use Rattle.http_texts.specs.Fields.{kept, of_request}
use Rattle.http_texts.specs.Texts.{fields_text, host_text, end_text}
use Rattle.http_texts.proofs.Putting.{puts_trans, puts_halts, halts_front, puts_as, halts_as}
use Rattle.req_view.specs.Request.{NamedValue}
use Rattle.http_texts.proofs.heads.put_request.Goals as goal

pub returns-in_err-put_request_line-clause-err : goal.returns-in_err-put_request_line-clause-err
returns-in_err-put_request_line-clause-err g c =
    let fields = kept of_request c.args.view.now.fields in
    let rest = fields_text fields ++ (host_text fields ++ (c.args.added.client.now ++ end_text c.args.added.asks c.args.framing)) in
    at_exit _ _ _ c.from_residual.ensures.1 (halts_front rest c.in_err-put_request_line.ensures.err)

pub returns-in_err-put_fields-clause-err : goal.returns-in_err-put_fields-clause-err
returns-in_err-put_fields-clause-err g c =
    let fields = kept of_request c.args.view.now.fields in
    let rest = host_text fields ++ (c.args.added.client.now ++ end_text c.args.added.asks c.args.framing) in
    at_exit _ _ _ c.from_residual-in_err-put_fields.ensures.1
    (puts_halts c.in_ok-put_request_line.ensures.ok (halts_front rest (halts_as (ap (λ (fields : List NamedValue). fields_text
    (kept of_request fields)) c.section.ensures) c.in_err-put_fields.ensures.err)))

pub returns-in_err-put_host-clause-err : goal.returns-in_err-put_host-clause-err
returns-in_err-put_host-clause-err g c =
    at_exit _ _ _ c.from_residual-in_err-put_host.ensures.1
    (puts_halts c.in_ok-put_request_line.ensures.ok (puts_halts (puts_as (ap (λ (fields : List NamedValue). fields_text
    (kept of_request fields)) c.section.ensures) c.in_ok-put_fields.ensures.ok)
    (halts_front (c.args.added.client.now ++ end_text c.args.added.asks c.args.framing) (halts_as (ap (λ (fields : List NamedValue). host_text
    (kept of_request fields)) c.section-2.ensures) c.in_err-put_host.ensures.err))))

pub returns-in_err-put-clause-err : goal.returns-in_err-put-clause-err
returns-in_err-put-clause-err g c =
    at_exit _ _ _ c.from_residual-in_err-put.ensures.1
    (puts_halts c.in_ok-put_request_line.ensures.ok (puts_halts (puts_as (ap (λ (fields : List NamedValue). fields_text
    (kept of_request fields)) c.section.ensures) c.in_ok-put_fields.ensures.ok)
    (puts_halts (puts_as (ap (λ (fields : List NamedValue). host_text
    (kept of_request fields)) c.section-2.ensures) c.in_ok-put_host.ensures.ok)
    (halts_front (end_text c.args.added.asks c.args.framing) c.in_err-put.ensures.err))))

pub returns-in_err-put_end-clause-err : goal.returns-in_err-put_end-clause-err
returns-in_err-put_end-clause-err g c =
    at_exit _ _ _ c.from_residual-in_err-put_end.ensures.1
    (puts_halts c.in_ok-put_request_line.ensures.ok (puts_halts (puts_as (ap (λ (fields : List NamedValue). fields_text
    (kept of_request fields)) c.section.ensures) c.in_ok-put_fields.ensures.ok)
    (puts_halts (puts_as (ap (λ (fields : List NamedValue). host_text
    (kept of_request fields)) c.section-2.ensures) c.in_ok-put_host.ensures.ok)
    (puts_halts c.in_ok-put.ensures.ok c.in_err-put_end.ensures.err))))

pub returns-clause-ok : goal.returns-clause-ok
returns-clause-ok g c =
    puts_trans c.in_ok-put_request_line.ensures.ok (puts_trans (puts_as (ap (λ (fields : List NamedValue). fields_text
    (kept of_request fields)) c.section.ensures) c.in_ok-put_fields.ensures.ok)
    (puts_trans (puts_as (ap (λ (fields : List NamedValue). host_text
    (kept of_request fields)) c.section-2.ensures) c.in_ok-put_host.ensures.ok)
    (puts_trans c.in_ok-put.ensures.ok c.in_ok-put_end.ensures.ok)))
