-- The text, and all that waits.
use Rattle.std.proofs.Common.{append-nil}
use Rattle.http_bodies.proofs.Exits.{at_exit}
use Rattle.http_texts.proofs.Putting.{sends_trans, sends_halts, sends_as, halts_as}
use Rattle.relay_http.proofs.sending.send_text.Goals as goal

pub returns-in_err-put-clause-err : goal.returns-in_err-put-clause-err
returns-in_err-put-clause-err g c =
    at_exit _ _ _ c.from_residual.ensures.1 (record { stops = c.in_err-put.ensures.err.0; inbox = c.in_err-put.ensures.inbox })

pub returns-in_err-send-clause-err : goal.returns-in_err-send-clause-err
returns-in_err-send-clause-err g c =
    at_exit _ _ _ c.from_residual-in_err-send.ensures.1
    (halts_as (append-nil c.args.text.now) (sends_halts (record { emits = c.in_ok-put.ensures.ok; inbox = c.in_ok-put.ensures.inbox }) c.in_err-send.ensures.err))

pub returns-clause-ok : goal.returns-clause-ok
returns-clause-ok g c = sends_as (append-nil c.args.text.now) (sends_trans (record { emits = c.in_ok-put.ensures.ok; inbox = c.in_ok-put.ensures.inbox }) c.in_ok-send.ensures.ok)
