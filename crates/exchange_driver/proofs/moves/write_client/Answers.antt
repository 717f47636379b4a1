use Rattle.std.proofs.Common.{◌≤◌, List, ℕ, refl, length, take, subst}
use Rattle.std.specs.Io.KnownBytes.{Appends}
use Rattle.exchange_machine.specs.declared.signs.Sign.TheVariants.{ClientFailed}
use Rattle.exchange_driver.proofs.Moving.{nothing_left, client_kept, client_signed, client_sent}
use Rattle.exchange_driver.specs.Answers.{Said}
use Rattle.exchange_driver.specs.declared.socket.WriteResult.TheVariants.{Bytes, Full, Failed}
use Rattle.exchange_driver.proofs.Telling.{client_answered}
use Rattle.exchange_driver.proofs.Standing.{answered_said}
use Rattle.exchange_driver.proofs.moves.write_client.Goals as goal

pub returns-in-Full-clause-at : goal.returns-in-Full-clause-at
returns-in-Full-clause-at g c h is = rw (c.unmoved.ensures.exchange, c.unmoved.ensures.outcome, c.unmoved.ensures.did)
    (client_kept _ _ _ h c.args.exchange (nothing_left _ _ c.in-Full.ensures.left.0) c.in-Full.ensures.taken c.in-Full.ensures.waits.0 c.in-Full.ensures.there is)

pub returns-in-Failed-clause-at : goal.returns-in-Failed-clause-at
returns-in-Failed-clause-at g c h is = rw (c.behind.ensures.exchange, c.behind.ensures.outcome, c.behind.ensures.did)
    (client_signed _ _ _ h ClientFailed _ _ (nothing_left _ _ c.in-Failed.ensures.left.0) c.in-Failed.ensures.taken c.in-Failed.ensures.waits.0 c.in-Failed.ensures.there (c.step.ensures.at h is))

pub returns-in-Bytes-clause-at : goal.returns-in-Bytes-clause-at
returns-in-Bytes-clause-at g c h is =
    let said = c.in-Bytes.ensures in
    let taken = subst (λ (l : List ℕ). Appends c.args.client.now.taken c.write_now-said.new.self.taken (take c.in-Bytes.count l)) c.to_client.ensures said.taken in
    let within = subst (λ (l : List ℕ). c.in-Bytes.count ≤ length l) c.to_client.ensures said.within in
    rw (c.behind-in-Bytes.ensures.exchange, c.behind-in-Bytes.ensures.outcome, c.behind-in-Bytes.ensures.did)
    (client_sent _ _ _ h _ c.in-Bytes.count _ _ said.left.0 taken said.waits.0 (said.some c.in-Bytes.count refl) within said.there said.none (c.step-in-Bytes.ensures.at h is))

pub returns-in-Full-clause-driven : goal.returns-in-Full-clause-driven
returns-in-Full-clause-driven g c = rw (c.unmoved.ensures.exchange, c.unmoved.ensures.outcome)
    (client_answered _ _ _ _ _ _ _ (Said Full) c.in-Full.ensures.said c.requires (refl, refl))

pub returns-in-Failed-clause-driven : goal.returns-in-Failed-clause-driven
returns-in-Failed-clause-driven g c = rw (c.behind.ensures.exchange, c.behind.ensures.outcome)
    (client_answered _ _ _ _ _ _ _ (Said Failed) c.in-Failed.ensures.said c.requires c.step.ensures.does)

pub returns-in-Bytes-clause-driven : goal.returns-in-Bytes-clause-driven
returns-in-Bytes-clause-driven g c = rw (c.behind-in-Bytes.ensures.exchange, c.behind-in-Bytes.ensures.outcome)
    (client_answered _ _ _ _ _ _ _ (Said (Bytes c.in-Bytes.count)) c.in-Bytes.ensures.said c.requires (c.step-in-Bytes.result.used, c.step-in-Bytes.ensures.does))

pub returns-in-Full-clause-answered : goal.returns-in-Full-clause-answered
returns-in-Full-clause-answered g c = answered_said _ _ Full c.in-Full.ensures.said c.in-Full.ensures.full c.in-Full.ensures.left.1

pub returns-in-Failed-clause-answered : goal.returns-in-Failed-clause-answered
returns-in-Failed-clause-answered g c = answered_said _ _ Failed c.in-Failed.ensures.said c.in-Failed.ensures.full c.in-Failed.ensures.left.1

pub returns-in-Bytes-clause-answered : goal.returns-in-Bytes-clause-answered
returns-in-Bytes-clause-answered g c = answered_said _ _ (Bytes c.in-Bytes.count) c.in-Bytes.ensures.said c.in-Bytes.ensures.full c.in-Bytes.ensures.left.1
