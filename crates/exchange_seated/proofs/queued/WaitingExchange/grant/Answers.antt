use Rattle.std.proofs.Common.{subst}
use Rattle.exchange_machine.specs.Stages.{IsDialing}
use Rattle.std.proofs.Math.Logic.{∥∥₁_map}
use Rattle.exchange_machine.specs.Histories.{granted}
use Rattle.exchange_seated.proofs.Connecting.{dialing_unsent}
use Rattle.exchange_seated.proofs.queued.WaitingExchange.grant.Goals as goal

pub of-requires-clause-at : goal.of-requires-clause-at
of-requires-clause-at g c = ∥∥₁_map c.args.self.waited (λ it. (granted it.0 _, c.grant.ensures.dials it.0 it.1))

pub returns-clause-unsent : goal.returns-clause-unsent
returns-clause-unsent g c = dialing_unsent _ _ c.of.ensures c.of.result.at

pub returns-clause-dials : goal.returns-clause-dials
returns-clause-dials g c h waits =
    (c.grant.result, c.of.ensures, subst (λ p. IsDialing c.grant.result (granted h p)) c.into_parts-seat.ensures.pass (c.grant.ensures.dials h waits))
