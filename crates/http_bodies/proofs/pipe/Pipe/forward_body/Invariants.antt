use Rattle.http_bodies.specs.Steps.{ends}
use Rattle.http_bodies.proofs.PipeFeeding.{Forwarding}
use Rattle.http_bodies.proofs.pipe.Pipe.forward_body.Given as goal

abbrev pub invariant-forwarding : goal.invariant-forwarding
invariant-forwarding g l = Forwarding l.framing l.framed l.coding
    (ends l.initial.self (g.S.Source.stream l.initial.source) (g.K.Sink.stream l.initial.sink))
    (ends l.self (g.S.Source.stream l.source) (g.K.Sink.stream l.sink)) 0

abbrev pub decreases-forwarding : goal.decreases-forwarding
decreases-forwarding g l = l.self.turns
