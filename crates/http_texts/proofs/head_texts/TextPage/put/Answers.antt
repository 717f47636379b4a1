-- Where memory is wanting, none of the bytes was put.
use Rattle.std.proofs.Common.{refl, arith, length-append, rules}
use Rattle.http_bodies.proofs.Emitting.{Spends-none, stops_unwritten}
use Rattle.http_bodies.proofs.Writing.{Wrote-nil}
use Rattle.http_texts.proofs.head_texts.TextPage.put.Goals as goal

pub returns-in-Err-clause-err : goal.returns-in-Err-clause-err
returns-in-Err-clause-err g c =
    stops_unwritten c.args.bytes.now (Wrote-nil _) (Spends-none _ _) (refl, refl)
    (omega (arith, c.in-Err.ensures.full, length-append c.args.self.now.bytes.items c.args.bytes.now)) (search rules)
