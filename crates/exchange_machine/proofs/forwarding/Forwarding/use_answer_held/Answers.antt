use Rattle.std.proofs.Common.{refl}
use Rattle.exchange_machine.proofs.SideLemmas.{forwarding_answer_used}
use Rattle.exchange_machine.proofs.forwarding.Forwarding.use_answer_held.Goals as goal

pub returns-clause-passes : goal.returns-clause-passes
returns-clause-passes c h is =
    forwarding_answer_used c.args.self.now c.take-fed.new.self _ h c.take-fed.result.used _ is c.requires c.as_slice.ensures.value c.take-fed.ensures.hears
    c.take-fed.ensures.grows c.forget.ensures refl
