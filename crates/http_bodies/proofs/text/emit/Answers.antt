-- What waits goes first, then the bytes.
use Rattle.http_bodies.proofs.Emitting.{emits_trans, stops_kept, stops_late}
use Rattle.http_bodies.proofs.Exits.{at_exit}
use Rattle.http_bodies.proofs.text.emit.Goals as goal

pub returns-in_err-flush-clause-err : goal.returns-in_err-flush-clause-err
returns-in_err-flush-clause-err g c =
    at_exit c.from_residual.result _ _ c.from_residual.ensures.1
    (stops_kept c.args.bytes.now c.in_err-flush.ensures.err c.in_err-flush.ensures.waiting)

pub returns-in_err-write_text-clause-err : goal.returns-in_err-write_text-clause-err
returns-in_err-write_text-clause-err g c =
    let flushed = c.in_ok-flush.ensures in
    at_exit c.from_residual-in_err-write_text.result _ _ c.from_residual-in_err-write_text.ensures.1
    (stops_late c.args.bytes.now flushed.ok flushed.empty c.in_err-write_text.ensures.err)

pub returns-clause-ok : goal.returns-clause-ok
returns-clause-ok g c =
    let flushed = c.in_ok-flush.ensures in
    rw flushed.empty (emits_trans (rw flushed.empty at flushed.ok) c.in_ok-write_text.ensures.ok)
