use Rattle.std.proofs.Common.{◌∙◌, sym}
use Rattle.exchange_machine.proofs.SettlingLemmas.{forwarding_settles}
use Rattle.exchange_machine.proofs.forwarding.Forwarding.settle_whole.Goals as goal

pub returns-clause-ends : goal.returns-clause-ends
returns-clause-ends c h is = forwarding_settles c.args.self h _ _ is c.requires (λ on. sym c.is_clean-clean.ensures ∙ on) (λ e. absurd cc)
