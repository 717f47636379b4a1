use Rattle.std.proofs.Common.{◌∙◌, ◌++◌, take, ap}
use Rattle.exchange_machine.proofs.SideLemmas.{forwarding_refused}
use Rattle.exchange_machine.specs.declared.way.Way.{Way}
use Rattle.exchange_machine.proofs.forwarding.Forwarding.refuse.Goals as goal

pub returns-clause-leaves : goal.returns-clause-leaves
returns-clause-leaves c h is why =
    let front = c.keep_front.ensures in
    forwarding_refused c.args.self _ c.put_text.new.way h c.args.code _ _ c.put_text.result is (c.end-pass.ensures.ends h is) c.end-pass.ensures.rest.0 c.requires why
    (λ told. c.put_text.ensures.fits told ∙ ap (λ l. l ++ c.text.result.now) front ∙ ap (λ l. take c.args.self.leave_left c.end-pass.result.rest.out.out ++ l) c.text.ensures)
    (λ none. ap (λ (w : Way). w.out) (c.put_text.ensures.full none) ∙ front)
