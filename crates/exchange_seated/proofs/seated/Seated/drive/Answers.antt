use Rattle.std.proofs.Math.Logic.{∥∥₁_elim}
use denote.Struct.Props.{props}
use Rattle.exchange_seated.proofs.Connecting.{holds_on}
use Rattle.exchange_seated.proofs.seated.Seated.drive.Goals as goal

pub returns-clause-there : goal.returns-clause-there
returns-clause-there g c = ∥∥₁_elim c.args.self.at (hlevel props) (λ it. (c.drive-exchange.ensures.at it.0 it.1).server.same)

pub returns-clause-holds : goal.returns-clause-holds
returns-clause-holds g c = holds_on _ _ _ _ (c.drive-exchange.ensures.passes c.args.self.at) c.part-seated.ensures.exchange

pub returns-clause-driven : goal.returns-clause-driven
returns-clause-driven g c = (
  c.drive-exchange.result.outcome,
  c.drive-exchange.ensures.driven.0,
  rw c.part-seated.ensures.exchange c.drive-exchange.ensures.driven.1,
  c.drive-exchange.ensures.driven.2,
  c.part-seated.ensures.retries,
  c.part-seated.ensures.anew,
  c.part-seated.ensures.ends,
)

pub returns-clause-answered : goal.returns-clause-answered
returns-clause-answered g c = (c.drive-exchange.ensures.client, c.drive-exchange.ensures.server)
