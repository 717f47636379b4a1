use Rattle.std.proofs.Common.{refl}
use Rattle.exchange_machine.proofs.SideLemmas.{forwarding_used}
use Rattle.exchange_machine.proofs.forwarding.Forwarding.use_held.Goals as goal

pub returns-clause-passes : goal.returns-clause-passes
returns-clause-passes c h is = forwarding_used c.args.self.now c.take-fed.new.self _ h c.take-fed.result.used _ is c.as_slice.ensures.value c.take-fed.ensures.hears c.forget.ensures refl
