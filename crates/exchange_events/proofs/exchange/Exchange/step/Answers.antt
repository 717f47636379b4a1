use Rattle.std.proofs.Math.Logic.{∥∥₁_map, ∥∥₁_elim}
use denote.Struct.Props.{props}
use Rattle.exchange_events.specs.Steps.{history_after}
use Rattle.exchange_events.proofs.PassLemmas.{passes_go_on, own_of}
use Rattle.exchange_events.proofs.exchange.Exchange.step.Goals as goal

pub returns-clause-history : goal.returns-clause-history
returns-clause-history c has = ∥∥₁_map has (λ it.
    (history_after c.args.self c.args.event c.go_on.result.used c.go_on.result.outcome it.0, c.go_on.ensures.at it.0 it.1))

pub returns-clause-passes : goal.returns-clause-passes
returns-clause-passes c has = ∥∥₁_elim has (hlevel props) (λ it. passes_go_on _ _ it.0 _ _ _ it.1 (c.go_on.ensures.at it.0 it.1))

pub returns-clause-own : goal.returns-clause-own
returns-clause-own c = own_of _ _ _ c.go_on.ensures.fails
