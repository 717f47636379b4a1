use Rattle.std.proofs.Common.{List, Option, subst}
use Rattle.relay_workers.specs.Gates.{Notice}
use Rattle.relay_workers.specs.Serving.{HasEnded}
use Rattle.relay_workers.proofs.working.serve_next.Goals as goal

pub returns-clause-served : goal.returns-clause-served
returns-clause-served g c = λ is. (
  c.in-Some-attend.outcome,
  c.in-Some.client,
  g.P.Pause.left c.begin.new.self,
  subst (λ (notes : Option (List (Notice g.row.G-Client.Denot g.row.G-Server.Denot))). HasEnded g.G.Client.Read.remaining g.G.Client.Write.contents
      g.G.Server.Read.remaining g.G.Server.Write.contents g.N.BoardName.terms g.N.DeskName.setup c.args.proxy.now.config
      c.attend.new.hand.runner.exchange c.in-Some-attend.outcome c.in-Some.client
      (record { notes = notes; left = g.P.Pause.left c.begin.new.self; view = c.args.seat.now.view })
      (record { notes = g.G.Gate.notes c.attend.new.hand.runner.gate; left = g.P.Pause.left c.attend.new.hand.pause; view = c.attend.new.seat.view }))
      c.in-Some.ensures.some c.in-Some-attend.ensures.ended,
  c.note.ensures,
)
