use Rattle.std.proofs.Common.{refl}
use Rattle.exchange_machine.proofs.Answering.{forwarding_tells}
use Rattle.exchange_machine.proofs.SettlingLemmas.{forwarding_clean}
use Rattle.exchange_machine.proofs.SideLemmas.{forwarding_ends}
use Rattle.exchange_machine.proofs.forwarding.Forwarding.end_as.Goals as goal

pub returns-clause-ends : goal.returns-clause-ends
returns-clause-ends c h is =
    forwarding_ends c.args.self h _ c.args.whole c.args.clean is (λ e. absurd cc) (λ on. forwarding_tells c.args.self h _ _ is refl refl (c.requires.whole on))
    (λ on. forwarding_clean c.args.self h _ is (c.requires.clean on))
