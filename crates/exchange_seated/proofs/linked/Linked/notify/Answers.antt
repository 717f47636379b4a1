use Rattle.std.proofs.Common.{◌≡◌, ◌∙◌, true, false, ap, sym, subst}
use Rattle.std.proofs.Math.Logic.{∥∥₁_map}
use Rattle.exchange_events.specs.Steps.{ended}
use Rattle.exchange_events.specs.declared.exchange.Exchange.{Exchange}
use Rattle.exchange_driver.specs.Wires.{Wire}
use Rattle.exchange_seated.specs.Connections.{IsServedOn}
use Rattle.exchange_seated.proofs.Connecting.{told_on, told_unsent, retried_unsent, held_before}
use Rattle.exchange_seated.proofs.linked.Linked.notify.Goals as goal

pub linked_anew-requires-clause-unsent : goal.linked_anew-requires-clause-unsent
linked_anew-requires-clause-unsent g c there held =
    let told = c.notify-served.ensures in
    ∥∥₁_map (c.args.self.unsent there (held_before _ _ told.holds held)) (λ it.
    let t = told.at it.0 it.1 in
    (ended t.1 t.0, t.4, told_unsent it.0 t.0 t.1 t.2 t.3 it.2))

pub linked_anew-requires-clause-anew : goal.linked_anew-requires-clause-anew
linked_anew-requires-clause-anew g c retries held =
    ∥∥₁_map c.args.self.seated.at (λ it.
    let t = c.notify-served.ensures.at it.0 it.1 in
    (ended t.1 t.0, t.4, retried_unsent t.1 t.0 (t.6 retries)))

pub returns-clause-on : goal.returns-clause-on
returns-clause-on g c linked opened before on =
    let anew = c.linked_anew.ensures in
    let same = anew.stays (λ is. let differ : true ≡ false = sym linked ∙ anew.retries is in cc) in
    ∥∥₁_map on (λ s.
    let t = c.notify-served.ensures.at s.history s.at in
    subst (λ (w : Wire). IsServedOn opened before c.linked_anew.result.linked.seated.exchange w) (sym same.0)
    (subst (λ (x : Exchange). IsServedOn opened before x c.args.self.line) (sym (ap (λ v. v.exchange) anew.seated))
    (told_on opened _ before _ _ t.1 s t.0 t.2 t.3 t.4
    (λ is. let differ : true ≡ false = sym linked ∙ anew.retries (t.5 is) in cc))))

pub returns-clause-does : goal.returns-clause-does
returns-clause-does g c =
    let anew = c.linked_anew.ensures in
    let d = c.notify-served.ensures.does in
    (d.0, d.1, rw anew.seated d.2, (λ is. anew.rest.1 ∙ d.3 is), (λ is. d.4 (sym anew.rest.1 ∙ is)), (λ posting is. d.5 posting (sym anew.rest.1 ∙ is)))
