use Rattle.std.proofs.Common.{arith, rules}
use Rattle.std.proofs.lemmas.Grind.{common_steps}
use Rattle.http_bodies.proofs.Stepping.{breaks_read, breaks_unasked}
use Rattle.http_bodies.proofs.pipe.Pipe.fill.Goals as goal

pub returns-then-self-eq0-clause-err : goal.returns-then-self-eq0-clause-err
returns-then-self-eq0-clause-err g c = λ w. breaks_unasked c.args.self.now (g.S.Source.stream c.args.source.now) w (search rules)

pub returns-in-Ok-clause-more : goal.returns-in-Ok-clause-more
returns-in-Ok-clause-more g c = grind (arith, common_steps)

pub returns-in-Ok-clause-none : goal.returns-in-Ok-clause-none
returns-in-Ok-clause-none g c = grind (arith, common_steps)

pub returns-in-Err-clause-err : goal.returns-in-Err-clause-err
returns-in-Err-clause-err g c = λ w.
    breaks_read c.args.self.now _ (g.S.Source.stream c.args.source.now) (g.S.Source.stream c.fill.new.source) w (search rules) (search rules) (grind (arith, common_steps)) (search rules)
