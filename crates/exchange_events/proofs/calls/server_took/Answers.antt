use Rattle.std.proofs.Common.{sym, subst, take, ◌≡◌, List, ℕ, min, length}
use Rattle.exchange_machine.specs.Histories.{server_got}
use Rattle.exchange_events.specs.Steps.{IsAtItsStage, ended, to_server}
use Rattle.exchange_events.specs.declared.exchange.Exchange.{Exchange}
use Rattle.exchange_events.proofs.StepLemmas.{at_as}
use Rattle.exchange_events.specs.Answers.{HasServed, RelayHears}
use Rattle.exchange_events.proofs.calls.server_took.Goals as goal

pub returns-in-Settling-clause-at : goal.returns-in-Settling-clause-at
returns-in-Settling-clause-at c h is =
    let r = c.unmoved-in-Settling.result in
    subst (λ (x : Exchange). IsAtItsStage r.next (ended r.outcome (server_got h (take c.args.count (to_server x))))) (sym c.in-Settling.is)
    (c.unmoved-in-Settling.ensures.server_took h c.args.count (at_as h c.in-Settling.is is))

pub returns-in-Leaving-clause-at : goal.returns-in-Leaving-clause-at
returns-in-Leaving-clause-at c h is =
    let r = c.unmoved-in-Leaving.result in
    subst (λ (x : Exchange). IsAtItsStage r.next (ended r.outcome (server_got h (take c.args.count (to_server x))))) (sym c.in-Leaving.is)
    (c.unmoved-in-Leaving.ensures.server_took h c.args.count (at_as h c.in-Leaving.is is))

pub returns-in-Telling-clause-at : goal.returns-in-Telling-clause-at
returns-in-Telling-clause-at c h is =
    let r = c.unmoved-in-Telling.result in
    subst (λ (x : Exchange). IsAtItsStage r.next (ended r.outcome (server_got h (take c.args.count (to_server x))))) (sym c.in-Telling.is)
    (c.unmoved-in-Telling.ensures.server_took h c.args.count (at_as h c.in-Telling.is is))

pub returns-in-Over-clause-at : goal.returns-in-Over-clause-at
returns-in-Over-clause-at c h is =
    let r = c.unmoved-in-Over.result in
    subst (λ (x : Exchange). IsAtItsStage r.next (ended r.outcome (server_got h (take c.args.count (to_server x))))) (sym c.in-Over.is)
    (c.unmoved-in-Over.ensures.server_took h c.args.count (at_as h c.in-Over.is is))

pub returns-in-Forwarding-clause-does : goal.returns-in-Forwarding-clause-does
returns-in-Forwarding-clause-does c =
    let next = c.go_on-next.result in
    let used = subst (λ (l : List ℕ). c.fitting-used.result ≡ min c.args.count (length l)) c.to_server.ensures c.fitting-used.ensures.least in
    subst (λ (x : Exchange). RelayHears (HasServed c.args.count) x c.fitting-used.result next.outcome next.next) (sym c.in-Forwarding.is)
    (c.server_took.new.self, (used, c.server_took.ensures.out, c.server_took.ensures.reached), c.go_on-next.ensures.judged)
