-- A client of version 1.1 gets each such head that isn't a 100.
use Rattle.std.proofs.Common.{◌≡◌, ◌∙◌, ◌++◌, sym}
use Rattle.httparse.specs.Ascii.{crlf_bytes}
use Rattle.http_bodies.proofs.Exits.{at_exit}
use Rattle.http_texts.specs.Texts.{answer_lines, interim_text}
use Rattle.http_texts.proofs.Putting.{puts_trans, puts_halts, halts_front, puts_as, halts_as, for_client}
use Rattle.http_texts.proofs.heads.put_interim.Goals as goal

pub returns-in_err-put_answer_lines-clause-err : goal.returns-in_err-put_answer_lines-clause-err
returns-in_err-put_answer_lines-clause-err g c =
    let a = c.args.head.now in
    let shown : interim_text c.args.framed a ≡ answer_lines a ++ crlf_bytes =
    for_client c.args.framed a.status (answer_lines a ++ crlf_bytes) c.if-not-framed.false (λ e. c.if-status-eq100.false (c.status.ensures.value ∙ e)) in
    at_exit _ _ _ c.from_residual.ensures.1 (halts_as (sym shown) (halts_front crlf_bytes c.in_err-put_answer_lines.ensures.err))

pub returns-in_err-put-clause-err : goal.returns-in_err-put-clause-err
returns-in_err-put-clause-err g c =
    let a = c.args.head.now in
    let shown : interim_text c.args.framed a ≡ answer_lines a ++ crlf_bytes =
    for_client c.args.framed a.status (answer_lines a ++ crlf_bytes) c.if-not-framed.false (λ e. c.if-status-eq100.false (c.status.ensures.value ∙ e)) in
    at_exit _ _ _ c.from_residual-in_err-put.ensures.1
    (halts_as (sym shown) (puts_halts c.in_ok-put_answer_lines.ensures.ok c.in_err-put.ensures.err))

pub returns-clause-ok : goal.returns-clause-ok
returns-clause-ok g c =
    let a = c.args.head.now in
    let shown : interim_text c.args.framed a ≡ answer_lines a ++ crlf_bytes =
    for_client c.args.framed a.status (answer_lines a ++ crlf_bytes) c.if-not-framed.false (λ e. c.if-status-eq100.false (c.status.ensures.value ∙ e)) in
    puts_as (sym shown) (puts_trans c.in_ok-put_answer_lines.ensures.ok c.in_ok-put.ensures.ok)
