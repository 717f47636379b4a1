use Rattle.std.proofs.Common.{List, ℕ, take, subst}
use Rattle.exchange_machine.specs.Histories.{server_came}
use Rattle.exchange_events.specs.Steps.{IsAtItsStage, ended}
use Rattle.exchange_driver.proofs.Moving.{server_used}
use Rattle.exchange_driver.proofs.Telling.{server_waited}
use Rattle.exchange_driver.proofs.Standing.{answered_kept}
use Rattle.exchange_driver.proofs.moves.use_server.Goals as goal

pub returns-clause-at : goal.returns-clause-at
returns-clause-at g c h is =
    let step = c.step-step.result in
    let at = subst (λ (l : List ℕ). IsAtItsStage step.next (ended step.outcome (server_came h (take step.used l)))) c.waiting.ensures (c.step-step.ensures.at h is) in
    rw (c.behind.ensures.exchange, c.behind.ensures.outcome, c.behind.ensures.did)
    (server_used _ _ _ h step.used _ _ c.taken.ensures.left.0 c.taken.ensures.left.1 c.taken.ensures.waits c.taken.ensures.there at)

pub returns-clause-driven : goal.returns-clause-driven
returns-clause-driven g c = rw (c.behind.ensures.exchange, c.behind.ensures.outcome)
    (server_waited _ _ _ _ _ _ _ c.taken.ensures.answers c.requires.wanted (_, rw c.waiting.ensures c.requires.some, c.step-step.result.used, c.step-step.ensures.does))

pub returns-clause-answered : goal.returns-clause-answered
returns-clause-answered g c = answered_kept _ _ c.taken.ensures.answers c.taken.ensures.told.0 c.taken.ensures.told.1
