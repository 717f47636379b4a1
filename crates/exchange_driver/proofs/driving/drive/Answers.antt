use Rattle.std.proofs.Math.Logic.{∥∥₁_map, ∥∥₁_elim}
use denote.Struct.Props.{props}
use Rattle.exchange_events.specs.Steps.{ended}
use Rattle.exchange_driver.proofs.Moving.{driven_passes}
use Rattle.exchange_driver.proofs.driving.drive.Goals as goal

pub returns-clause-history : goal.returns-clause-history
returns-clause-history g c has = ∥∥₁_map has (λ it.
    let driven = c.drive_on.ensures.at it.0 it.1 in (ended c.drive_on.result.outcome driven.now, driven.at))

pub returns-clause-passes : goal.returns-clause-passes
returns-clause-passes g c has = ∥∥₁_elim has (hlevel props) (λ it. driven_passes _ _ _ _ _ _ it.0 _ _ _ it.1 (c.drive_on.ensures.at it.0 it.1))
