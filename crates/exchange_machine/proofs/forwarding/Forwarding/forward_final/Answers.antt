use Rattle.std.proofs.Common.{◌≡◌, ◌∙◌, ◌++◌, Bool, refl, ap}
use Rattle.http_texts.specs.Texts.{answer_text, framed_for}
use Rattle.http_bodies.specs.Readings.{start_of}
use Rattle.exchange_machine.proofs.SideLemmas.{forwarding_final}
use Rattle.exchange_machine.proofs.forwarding.Forwarding.forward_final.Goals as goal

pub returns-clause-passes : goal.returns-clause-passes
returns-clause-passes c h is =
    let p = c.args.self.now in
    let says = c.answer_says-says.result in
    let framed : c.is_framed-framed.result ≡ framed_for p.view.version = c.is_framed-framed.ensures ∙ ap framed_for c.version.ensures in
    let out = c.begin.ensures.out ∙ c.if-not-put_text.ensures.fits refl ∙ ap (λ l. p.down.out ++ l) (c.as_slice.ensures.value ∙ c.in-Ok.ensures)
    ∙ ap (λ (f : Bool). p.down.out ++ answer_text says f c.args.head.now c.args.plan) framed in
    let coding = c.begin.ensures.coding ∙ ap (λ (f : Bool). start_of c.args.plan.body f) framed in
    forwarding_final p c.begin.new.self c.forget.new.held.items h c.requires.phase.0 c.args.head.now c.args.len c.args.plan _ is c.requires.phase.1 c.requires.says
    c.requires.planned c.requires.last c.answer_says-says.ensures c.is_kept_by_server-self.ensures coding out c.forget.ensures refl refl
