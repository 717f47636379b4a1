use Rattle.std.proofs.Common.{◌≡◌, ℕ, List, [], ◌++◌, length}
use Rattle.http_bodies.specs.Texts.{Emits}
use Rattle.http_bodies.proofs.text.write_text.Given as goal

abbrev pub invariant-writing : goal.invariant-writing
invariant-writing g l = (done : List ℕ) × (l.initial.rest ≡ done ++ l.rest)
    × Emits (g.K.Sink.stream l.initial.sink) (g.K.Sink.stream l.sink) l.initial.turns l.turns [] [] done

abbrev pub decreases-writing : goal.decreases-writing
decreases-writing g l = length l.rest
