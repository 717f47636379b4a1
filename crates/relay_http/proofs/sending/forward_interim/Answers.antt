-- The head goes out at once.
use Rattle.std.proofs.Common.{append-nil}
use Rattle.http_bodies.proofs.Exits.{at_exit}
use Rattle.http_texts.specs.Texts.{interim_text}
use Rattle.http_texts.proofs.Putting.{sends_trans, puts_halts, sends_as, halts_as}
use Rattle.relay_http.proofs.sending.forward_interim.Goals as goal

pub returns-in_err-send-clause-err : goal.returns-in_err-send-clause-err
returns-in_err-send-clause-err g c =
    at_exit _ _ _ c.from_residual-in_err-send.ensures.1
    (halts_as (append-nil (interim_text c.args.framed c.args.head.now)) (puts_halts c.in_ok-put_interim.ensures.ok c.in_err-send.ensures.err))

pub returns-clause-ok : goal.returns-clause-ok
returns-clause-ok g c =
    sends_as (append-nil (interim_text c.args.framed c.args.head.now)) (sends_trans c.in_ok-put_interim.ensures.ok.sends c.in_ok-send.ensures.ok)
