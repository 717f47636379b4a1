use Rattle.std.proofs.Common.{sym, subst, take, ◌≡◌, List, ℕ, min, length}
use Rattle.exchange_machine.specs.Histories.{client_got}
use Rattle.exchange_events.specs.Steps.{IsAtItsStage, ended, to_client}
use Rattle.exchange_events.specs.declared.exchange.Exchange.{Exchange}
use Rattle.exchange_events.proofs.StepLemmas.{at_as}
use Rattle.exchange_events.specs.Answers.{TellsClient}
use Rattle.exchange_events.proofs.calls.client_took.Goals as goal

pub returns-in-Dialing-clause-at : goal.returns-in-Dialing-clause-at
returns-in-Dialing-clause-at c h is =
    let r = c.unmoved-in-Dialing.result in
    subst (λ (x : Exchange). IsAtItsStage r.next (ended r.outcome (client_got h (take c.args.count (to_client x))))) (sym c.in-Dialing.is)
    (c.unmoved-in-Dialing.ensures.client_took h c.args.count (at_as h c.in-Dialing.is is))

pub returns-in-Over-clause-at : goal.returns-in-Over-clause-at
returns-in-Over-clause-at c h is =
    let r = c.unmoved-in-Over.result in
    subst (λ (x : Exchange). IsAtItsStage r.next (ended r.outcome (client_got h (take c.args.count (to_client x))))) (sym c.in-Over.is)
    (c.unmoved-in-Over.ensures.client_took h c.args.count (at_as h c.in-Over.is is))

pub returns-in-Forwarding-clause-does : goal.returns-in-Forwarding-clause-does
returns-in-Forwarding-clause-does c =
    let next = c.go_on-next.result in
    let used = subst (λ (l : List ℕ). c.fitting-used.result ≡ min c.args.count (length l)) c.to_client.ensures c.fitting-used.ensures.least in
    subst (λ (x : Exchange). TellsClient c.args.count x c.fitting-used.result next.outcome next.next) (sym c.in-Forwarding.is)
    (c.client_took.new.self, (used, c.client_took.ensures.out, c.client_took.ensures.begun), c.go_on-next.ensures.judged)
