use Rattle.std.proofs.Common.{◌∙◌, ℕ, List, [], ◌∷◌, ◌++◌, codes, ap}
use Rattle.http_bodies.proofs.Exits.{at_exit}
use Rattle.httparse.specs.Ascii.{crlf_bytes, space}
use Rattle.http_texts.specs.Texts.{status_text}
use Rattle.http_texts.proofs.Putting.{puts_trans, puts_halts, halts_front, puts_as, halts_as}
use Rattle.http_texts.proofs.heads.put_status_line.Goals as goal

pub returns-in_err-put_three-clause-err : goal.returns-in_err-put_three-clause-err
returns-in_err-put_three-clause-err g c =
    let line = ap (λ (l : List ℕ). codes "HTTP/1.1 " ++ (l ++ space ∷ [])) (c.status_digits-digits.ensures ∙ ap status_text c.status.ensures.value) in
    at_exit _ _ _ c.from_residual.ensures.1 (halts_front (c.args.head.now.reason ++ crlf_bytes) (halts_as line c.in_err-put_three.ensures.err))

pub returns-in_err-put-clause-err : goal.returns-in_err-put-clause-err
returns-in_err-put-clause-err g c =
    let line = puts_as (ap (λ (l : List ℕ). codes "HTTP/1.1 " ++ (l ++ space ∷ []))
    (c.status_digits-digits.ensures ∙ ap status_text c.status.ensures.value)) c.in_ok-put_three.ensures.ok in
    at_exit _ _ _ c.from_residual-in_err-put.ensures.1 (puts_halts line (halts_front crlf_bytes (halts_as c.reason.ensures c.in_err-put.ensures.err)))

pub returns-in_err-put-2-clause-err : goal.returns-in_err-put-2-clause-err
returns-in_err-put-2-clause-err g c =
    let line = puts_as (ap (λ (l : List ℕ). codes "HTTP/1.1 " ++ (l ++ space ∷ []))
    (c.status_digits-digits.ensures ∙ ap status_text c.status.ensures.value)) c.in_ok-put_three.ensures.ok in
    at_exit _ _ _ c.from_residual-in_err-put-2.ensures.1 (puts_halts line (puts_halts
    (puts_as c.reason.ensures c.in_ok-put.ensures.ok) c.in_err-put-2.ensures.err))

pub returns-clause-ok : goal.returns-clause-ok
returns-clause-ok g c =
    let line = puts_as (ap (λ (l : List ℕ). codes "HTTP/1.1 " ++ (l ++ space ∷ []))
    (c.status_digits-digits.ensures ∙ ap status_text c.status.ensures.value)) c.in_ok-put_three.ensures.ok in
    puts_trans line (puts_trans (puts_as c.reason.ensures c.in_ok-put.ensures.ok) c.in_ok-put-2.ensures.ok)
