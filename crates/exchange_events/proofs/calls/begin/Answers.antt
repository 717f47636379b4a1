-- Where memory or room is short, the request goes nowhere.
use Rattle.std.proofs.Common.{◌≡◌, inl, inr, refl, subst}
use Rattle.base_verdict.specs.declared.Ending.TheVariants.{Done}
use Rattle.exchange_machine.specs.declared.dialing.Dialing.{Dialing}
use Rattle.http_texts.specs.declared.refusals.Code.TheVariants.{Unavailable}
use Rattle.exchange_events.specs.Answers.{IsSentRefusal}
use Rattle.exchange_events.specs.declared.exchange.Outcome.TheVariants.{StarvedPosts}
use Rattle.exchange_events.proofs.calls.begin.Goals as goal

pub returns-in_default-clause-does : goal.returns-in_default-clause-does
returns-in_default-clause-does c = inr c.short.ensures.does

pub returns-in_default-new-clause-does : goal.returns-in_default-new-clause-does
returns-in_default-new-clause-does c = inr c.short-in_default-new.ensures.does

pub returns-in-Ok-connected-clause-does : goal.returns-in-Ok-connected-clause-does
returns-in-Ok-connected-clause-does c = inl (refl, c.in-Ok-connected.forwarding, c.in-Ok-connected.ensures.begins, c.go_on-next.ensures.judged)

pub returns-in-Err-clause-does : goal.returns-in-Err-clause-does
returns-in-Err-clause-does c =
    let r = c.short-in-Err.result in
    inr (subst (λ (d : Dialing). (r.used ≡ 0) × (r.outcome ≡ StarvedPosts d.pass Done) × IsSentRefusal Unavailable r.next) c.in-Err.ensures.same c.short-in-Err.ensures.does)
