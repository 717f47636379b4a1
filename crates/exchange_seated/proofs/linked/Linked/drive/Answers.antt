use Rattle.std.proofs.Common.{◌≡◌, ◌∙◌, true, false, ap, sym, subst}
use Rattle.std.proofs.Math.Logic.{∥∥₁_map, ∥∥₁_elim}
use denote.Struct.Props.{props}
use Rattle.exchange_events.specs.Steps.{ended}
use Rattle.exchange_events.specs.declared.exchange.Exchange.{Exchange}
use Rattle.exchange_driver.specs.Wires.{IsAsAnswered, Wire}
use Rattle.exchange_seated.specs.Connections.{IsServedOn}
use Rattle.exchange_seated.proofs.Connecting.{driven_on, driven_unsent, retried_unsent, held_before}
use Rattle.exchange_seated.proofs.linked.Linked.drive.Goals as goal

pub linked_anew-requires-clause-unsent : goal.linked_anew-requires-clause-unsent
linked_anew-requires-clause-unsent g c there held =
    let driven = c.drive-served.ensures in
    let before = sym driven.there ∙ there in
    ∥∥₁_map (c.args.self.unsent before (held_before _ _ driven.holds held)) (λ it.
    let d = driven.at it.0 it.1 in
    (ended d.0 d.1.now, d.1.at, driven_unsent _ _ _ _ _ _ it.0 _ d.0 d.1 before (c.args.self.empty before) it.2))

pub linked_anew-requires-clause-anew : goal.linked_anew-requires-clause-anew
linked_anew-requires-clause-anew g c retries held =
    ∥∥₁_map c.args.self.seated.at (λ it.
    let d = c.drive-served.ensures.at it.0 it.1 in
    (ended d.0 d.1.now, d.1.at, retried_unsent d.0 d.1.now (d.3 retries)))

pub linked_anew-requires-clause-empty : goal.linked_anew-requires-clause-empty
linked_anew-requires-clause-empty g c there =
    let driven = c.drive-served.ensures in
    let before = sym driven.there ∙ there in
    ∥∥₁_elim c.args.self.seated.at (hlevel props) (λ it. (driven.at it.0 it.1).1.server.still before (c.args.self.empty before))

pub returns-clause-on : goal.returns-clause-on
returns-clause-on g c linked opened before on =
    let anew = c.linked_anew.ensures in
    let same = anew.stays (λ is. let differ : true ≡ false = sym linked ∙ anew.retries is in cc) in
    ∥∥₁_map on (λ s.
    let d = c.drive-served.ensures.at s.history s.at in
    subst (λ (w : Wire). IsServedOn opened before c.linked_anew.result.linked.seated.exchange w) (sym same.0)
    (subst (λ (x : Exchange). IsServedOn opened before x c.drive-served.new.server) (sym (ap (λ t. t.exchange) anew.seated))
    (driven_on opened _ _ _ _ _ _ before _ _ d.0 s d.1 (λ is. let differ : true ≡ false = sym linked ∙ anew.retries (d.2 is) in cc))))

pub returns-clause-client : goal.returns-clause-client
returns-clause-client g c h at =
    let anew = c.linked_anew.ensures in
    let d = c.drive-served.ensures.at h at in
    (d.0, c.drive-served.new.server, rw (anew.moved.0, anew.moved.1, anew.seated) d.1, (λ kept. sym (anew.stays (λ is. kept (anew.rest.1 ∙ is))).0))

pub returns-clause-driven : goal.returns-clause-driven
returns-clause-driven g c =
    let anew = c.linked_anew.ensures in
    let d = c.drive-served.ensures.driven in (
      d.0,
      d.1,
      c.drive-served.new.server.answers,
      rw anew.seated d.2,
      rw anew.rest.0 d.3,
      (λ kept. ap (λ (w : Wire). w.answers) (anew.stays (λ is. kept (anew.rest.1 ∙ is))).0),
      (λ is. anew.rest.1 ∙ d.4 is),
      (λ is. d.5 (sym anew.rest.1 ∙ is)),
      (λ posting is. d.6 posting (sym anew.rest.1 ∙ is)),
    )

pub returns-clause-answered : goal.returns-clause-answered
returns-clause-answered g c = c.drive-served.ensures.answered.0

pub returns-clause-left : goal.returns-clause-left
returns-clause-left g c kept =
    let anew = c.linked_anew.ensures in
    subst (λ (w : Wire). IsAsAnswered c.args.self.line w) (sym (anew.stays (λ is. kept (anew.rest.1 ∙ is))).0) c.drive-served.ensures.answered.1
