-- Where no turn is left, or the write fails, none of the text was written.
use Rattle.std.proofs.Common.{rules}
use Rattle.http_bodies.proofs.Emitting.{Spends-none, stops_whole}
use Rattle.http_bodies.proofs.Writing.{Wrote-nil}
use Rattle.http_bodies.proofs.text.write_once.Goals as goal

pub returns-then-turns-eq0-clause-err : goal.returns-then-turns-eq0-clause-err
returns-then-turns-eq0-clause-err g c = stops_whole (Wrote-nil _) (Spends-none _ _) (search rules) c.requires.some

pub returns-in-Err-clause-err : goal.returns-in-Err-clause-err
returns-in-Err-clause-err g c = stops_whole (search rules) (search rules) (search rules) c.requires.some
