use Rattle.std.proofs.Common.{[], take, sym, subst, arith}
use Rattle.std.proofs.lemmas.Result.{err_from_is_err_and}
use Rattle.log_entries.specs.Logs.{Recorded}
use Rattle.log_reading.specs.Readable.{MayFollow}
use Rattle.log_reading.specs.Windows.{base_rows}
use Rattle.log_reading.proofs.Indexed.{follows_at}
use Rattle.log_reading.proofs.log.Log.read.Goals as goal

pub returns-in_err-follow-clause-unreadable : goal.returns-in_err-follow-clause-unreadable
returns-in_err-follow-clause-unreadable c =
    let p = err_from_is_err_and c.from_residual.result c.from_residual.ensures.1 in
    rw (p.1, p.2) (λ is readable.
    let l = c.loop-entry in
    let es = c.args.entries.now in
    let base = base_rows c.args.base.rows in
    let may : MayFollow base (take l.entry-index es) c.entry-item.result =
    subst (MayFollow base (take l.entry-index es)) (sym c.entry-item.is) (follows_at base [] es readable l.entry-index c.entry-item.result (omega arith)) in
    c.in_err-follow.ensures.unreadable is (subst (λ (r : Recorded). MayFollow (base_rows r.base.rows) r.entries c.entry-item.result) (sym l.invariant.log) may))
