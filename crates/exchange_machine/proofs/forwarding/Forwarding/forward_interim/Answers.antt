use Rattle.std.proofs.Common.{◌≡◌, ◌∙◌, ◌++◌, Bool, refl, ap}
use Rattle.http_texts.specs.Texts.{interim_text, framed_for}
use Rattle.exchange_machine.proofs.SideLemmas.{forwarding_interim}
use Rattle.exchange_machine.proofs.forwarding.Forwarding.forward_interim.Goals as goal

pub returns-clause-passes : goal.returns-clause-passes
returns-clause-passes c h is =
    let p = c.args.self.now in
    let framed : c.is_framed-framed.result ≡ framed_for p.view.version = c.is_framed-framed.ensures ∙ ap framed_for c.version.ensures in
    let out = c.if-not-put_text.ensures.fits refl ∙ ap (λ l. p.down.out ++ l) (c.as_slice.ensures.value ∙ c.in-Ok.ensures)
    ∙ ap (λ (f : Bool). p.down.out ++ interim_text f c.args.head.now) framed in
    forwarding_interim p c.put_text.new.way c.forget.new.held.items h c.args.count c.args.head.now c.args.len _ is c.requires.looks c.requires.phase c.requires.says
    c.requires.planned c.requires.interim c.requires.few out c.forget.ensures refl refl
