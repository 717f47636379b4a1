use Rattle.std.proofs.Common.{◌∷◌, ◌++◌, [], subst, ◌≡◌, Bool, true, refl, sym}
use Rattle.exchange_machine.specs.Reasons.{Shows}
use Rattle.exchange_machine.specs.declared.signs.Sign.{Sign}
use Rattle.exchange_machine.specs.Histories.{signed}
use Rattle.exchange_machine.proofs.EventLemmas.{forwarding_signed, shows_last}
use Rattle.exchange_events.proofs.StepLemmas.{at_as}
use Rattle.exchange_events.specs.Answers.{HasHeardEnd, RelayHears, is_end_sign}
use Rattle.exchange_events.specs.declared.exchange.Exchange.{Exchange}
use Rattle.exchange_events.proofs.calls.server_ended.Goals as goal

pub returns-in-Forwarding-clause-at : goal.returns-in-Forwarding-clause-at
returns-in-Forwarding-clause-at c h is = c.go_on-next.ensures.at (signed h c.args.sign) (c.server_ended.ensures.passes (signed h c.args.sign)
    (forwarding_signed c.in-Forwarding.forwarding h c.args.sign (at_as h c.in-Forwarding.is is))
    (record { sign = c.args.sign; shows = shows_last h.signs c.args.sign; tells = c.requires })
    (λ well. subst (λ (s : Sign). Shows (h.signs ++ c.args.sign ∷ []) s) (c.is_end.ensures.end well) (shows_last h.signs c.args.sign)))

pub returns-in-Forwarding-clause-does : goal.returns-in-Forwarding-clause-does
returns-in-Forwarding-clause-does c =
    let forwarding = c.in-Forwarding.forwarding in
    let next = c.go_on-next.result in
    let now = subst (λ (well : Bool). c.server_ended.new.self ≡ record forwarding { ended = true; well = well }) c.is_end.ensures.same c.server_ended.ensures.ended in
    subst (λ (x : Exchange). RelayHears (HasHeardEnd (is_end_sign c.args.sign)) x 0 next.outcome next.next) (sym c.in-Forwarding.is)
    (c.server_ended.new.self, (refl, now), c.go_on-next.ensures.judged)
