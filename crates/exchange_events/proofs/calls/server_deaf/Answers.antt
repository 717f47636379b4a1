use Rattle.std.proofs.Common.{refl, sym, subst}
use Rattle.exchange_machine.specs.Histories.{signed}
use Rattle.exchange_machine.proofs.EventLemmas.{forwarding_signed}
use Rattle.exchange_events.proofs.StepLemmas.{at_as}
use Rattle.exchange_machine.specs.declared.signs.Sign.TheVariants.{ServerDeaf}
use Rattle.exchange_events.specs.Answers.{RelayHears, IsCutOff}
use Rattle.exchange_events.specs.declared.exchange.Exchange.{Exchange}
use Rattle.exchange_events.proofs.calls.server_deaf.Goals as goal

pub returns-in-Forwarding-clause-at : goal.returns-in-Forwarding-clause-at
returns-in-Forwarding-clause-at c h is = c.go_on-next.ensures.at (signed h ServerDeaf) (c.cut_off.ensures.passes (signed h ServerDeaf)
    (forwarding_signed c.in-Forwarding.forwarding h ServerDeaf (at_as h c.in-Forwarding.is is)))

pub returns-in-Forwarding-clause-does : goal.returns-in-Forwarding-clause-does
returns-in-Forwarding-clause-does c =
    let next = c.go_on-next.result in
    subst (λ (x : Exchange). RelayHears IsCutOff x 0 next.outcome next.next) (sym c.in-Forwarding.is)
    (c.cut_off.new.self, (refl, c.cut_off.ensures.cut), c.go_on-next.ensures.judged)
