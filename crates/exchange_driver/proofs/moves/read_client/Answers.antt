use Rattle.std.proofs.Common.{◌≡◌, ◌∙◌, Bool, true, false, ◌<◌, List, ℕ, ◌++◌, ◌-◌, Option, refl, ap, sym, length, take, drop, subst, arith, length-take}
use Rattle.std.proofs.lemmas.List.{take_rest}
use Rattle.std.specs.Io.KnownBytes.{Consumes}
use Rattle.exchange_machine.specs.declared.signs.Sign.TheVariants.{ClientEnded, ClientFailed}
use Rattle.exchange_driver.proofs.Moving.{nothing_taken, client_kept, client_signed, client_heard}
use Rattle.exchange_driver.specs.Answers.{Heard}
use Rattle.exchange_driver.specs.Wires.{HasHeard}
use Rattle.exchange_driver.specs.declared.socket.ReadResult.TheVariants.{Bytes, Nothing, Ended}
use Rattle.exchange_driver.proofs.Telling.{heard_nothing, heard_bytes, heard_end, client_answered, client_failed}
use Rattle.exchange_driver.proofs.Standing.{answered_kept, answered_on, answered_heard}
use Rattle.exchange_driver.proofs.moves.read_client.Goals as goal

pub returns-in-Nothing-clause-at : goal.returns-in-Nothing-clause-at
returns-in-Nothing-clause-at g c h is =
    let heard = c.in-Nothing.ensures in
    rw (c.unmoved.ensures.exchange, c.unmoved.ensures.outcome, c.unmoved.ensures.did)
    (client_kept _ _ _ h c.args.exchange heard.left (nothing_taken _ _ heard.taken.0) heard.waits heard.there is)

pub returns-in-Ended-true-clause-at : goal.returns-in-Ended-true-clause-at
returns-in-Ended-true-clause-at g c h is =
    let heard = c.in-Ended-true.ensures in
    rw (c.behind.ensures.exchange, c.behind.ensures.outcome, c.behind.ensures.did)
    (client_signed _ _ _ h ClientEnded _ _ heard.left (nothing_taken _ _ heard.taken.0) heard.waits heard.there (c.step.ensures.at h is))

pub returns-in-Ended-false-clause-at : goal.returns-in-Ended-false-clause-at
returns-in-Ended-false-clause-at g c h is =
    let heard = c.in-Ended-false.ensures in
    rw (c.behind-in-Ended-false.ensures.exchange, c.behind-in-Ended-false.ensures.outcome, c.behind-in-Ended-false.ensures.did)
    (client_signed _ _ _ h ClientFailed _ _ heard.left (nothing_taken _ _ heard.taken.0) heard.waits heard.there (c.step-in-Ended-false.ensures.at h is))

pub returns-in-Bytes-clause-at : goal.returns-in-Bytes-clause-at
returns-in-Bytes-clause-at g c h is =
    let heard = c.in-Bytes.ensures in
    let bytes = take c.in-Bytes.count c.read_now.new.buffer in
    let some : 0 < length bytes =
    let long = length-take c.in-Bytes.count c.read_now.new.buffer in
    let low = heard.some c.in-Bytes.count refl in
    let within = heard.within in
    omega arith in
    let kept = c.keep.ensures in
    let none : c.args.client.now.there ≡ false → length bytes ≡ 0 = λ e. absurd (omega (arith, heard.some c.in-Bytes.count refl, heard.none e)) in
    let waits = kept.waits ∙ ap (λ (l : List ℕ). l ++ take (length bytes - c.step-step.result.used) (drop c.step-step.result.used bytes)) (heard.waits ∙ c.requires.first) ∙ take_rest bytes c.step-step.result.used in
    let left = subst (λ (l : Option (List ℕ)). Consumes c.args.client.now.left l bytes) (sym kept.left.0) heard.left in
    rw (c.behind-in-Bytes.ensures.exchange, c.behind-in-Bytes.ensures.outcome, c.behind-in-Bytes.ensures.did)
    (client_heard _ _ _ h bytes c.step-step.result.used _ _ left (kept.left.1 ∙ heard.taken.0) c.requires.first waits some (kept.there ∙ heard.there) none (c.step-step.ensures.at h is))

pub returns-in-Nothing-clause-driven : goal.returns-in-Nothing-clause-driven
returns-in-Nothing-clause-driven g c = rw (c.unmoved.ensures.exchange, c.unmoved.ensures.outcome)
    (client_answered _ _ _ _ _ _ _ (Heard Nothing) (heard_nothing c.args.client.now c.read_now.new.self c.in-Nothing.ensures.heard) c.requires.wanted (refl, refl))

pub returns-in-Ended-true-clause-driven : goal.returns-in-Ended-true-clause-driven
returns-in-Ended-true-clause-driven g c = rw (c.behind.ensures.exchange, c.behind.ensures.outcome)
    (client_answered _ _ _ _ _ _ _ (Heard (Ended true)) (heard_end c.args.client.now c.read_now.new.self (subst (λ (well : Bool). HasHeard (Ended well) c.args.client.now c.read_now.new.self) c.in-Ended-true.well-test c.in-Ended-true.ensures.heard)) c.requires.wanted (c.step.result.used, c.step.ensures.does))

pub returns-in-Ended-false-clause-driven : goal.returns-in-Ended-false-clause-driven
returns-in-Ended-false-clause-driven g c = rw (c.behind-in-Ended-false.ensures.exchange, c.behind-in-Ended-false.ensures.outcome)
    (client_failed _ c.args.client.now c.read_now.new.self _ _ _ _ (subst (λ (well : Bool). HasHeard (Ended well) c.args.client.now c.read_now.new.self) c.in-Ended-false.well-test c.in-Ended-false.ensures.heard) c.requires.wanted c.step-in-Ended-false.ensures.does)

pub returns-in-Bytes-clause-driven : goal.returns-in-Bytes-clause-driven
returns-in-Bytes-clause-driven g c = rw (c.behind-in-Bytes.ensures.exchange, c.behind-in-Bytes.ensures.outcome)
    (client_answered _ _ _ _ _ _ _ (Heard (Bytes c.in-Bytes.count)) (c.keep.ensures.answers ∙ heard_bytes c.args.client.now c.read_now.new.self c.in-Bytes.count c.in-Bytes.ensures.heard)
    c.requires.wanted (_, omega (arith, c.in-Bytes.ensures.within, length-take c.in-Bytes.count c.read_now.new.buffer), c.step-step.result.used, c.step-step.ensures.does))

pub returns-in-Nothing-clause-answered : goal.returns-in-Nothing-clause-answered
returns-in-Nothing-clause-answered g c = answered_heard _ _ Nothing c.in-Nothing.ensures.heard c.in-Nothing.ensures.taken.1

pub returns-in-Ended-true-clause-answered : goal.returns-in-Ended-true-clause-answered
returns-in-Ended-true-clause-answered g c = answered_heard _ _ _ c.in-Ended-true.ensures.heard c.in-Ended-true.ensures.taken.1

pub returns-in-Ended-false-clause-answered : goal.returns-in-Ended-false-clause-answered
returns-in-Ended-false-clause-answered g c = answered_heard _ _ _ c.in-Ended-false.ensures.heard c.in-Ended-false.ensures.taken.1

pub returns-in-Bytes-clause-answered : goal.returns-in-Bytes-clause-answered
returns-in-Bytes-clause-answered g c = answered_on _ c.read_now.new.self _
    (answered_heard _ _ (Bytes c.in-Bytes.count) c.in-Bytes.ensures.heard c.in-Bytes.ensures.taken.1)
    (answered_kept _ _ c.keep.ensures.answers c.keep.ensures.told.0 c.keep.ensures.told.1)
