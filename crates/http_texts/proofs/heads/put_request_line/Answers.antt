use Rattle.std.proofs.Common.{ℕ, List, ◌∷◌, ◌++◌, codes, ap}
use Rattle.http_bodies.proofs.Exits.{at_exit}
use Rattle.httparse.specs.Ascii.{space}
use Rattle.http_texts.proofs.Putting.{puts_trans, puts_halts, halts_front, puts_as, halts_as}
use Rattle.http_texts.proofs.heads.put_request_line.Goals as goal

pub returns-in_err-put-clause-err : goal.returns-in_err-put-clause-err
returns-in_err-put-clause-err g c =
    at_exit _ _ _ c.from_residual.ensures.1 (halts_front (space ∷ (c.args.view.now.target ++ codes " HTTP/1.1\r\n"))
    (halts_as c.method.ensures c.in_err-put.ensures.err))

pub returns-in_err-put_three-clause-err : goal.returns-in_err-put_three-clause-err
returns-in_err-put_three-clause-err g c =
    at_exit _ _ _ c.from_residual-in_err-put_three.ensures.1 (puts_halts (puts_as c.method.ensures c.in_ok-put.ensures.ok) (halts_as (ap
    (λ (l : List ℕ). space ∷ (l ++ codes " HTTP/1.1\r\n")) c.target.ensures) c.in_err-put_three.ensures.err))

pub returns-clause-ok : goal.returns-clause-ok
returns-clause-ok g c =
    puts_trans (puts_as c.method.ensures c.in_ok-put.ensures.ok) (puts_as (ap (λ (l : List ℕ). space ∷
    (l ++ codes " HTTP/1.1\r\n")) c.target.ensures) c.in_ok-put_three.ensures.ok)
