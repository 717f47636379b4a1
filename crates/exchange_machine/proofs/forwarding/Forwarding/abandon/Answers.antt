use Rattle.std.proofs.Common.{sym, subst}
use Rattle.grant_board.specs.Views.{Grant}
use Rattle.base_verdict.specs.declared.Ending.TheVariants.{Done}
use Rattle.exchange_machine.specs.Histories.{posted}
use Rattle.exchange_machine.specs.Stages.{IsOver}
use Rattle.exchange_machine.proofs.EventLemmas.{forwarding_left}
use Rattle.exchange_machine.proofs.forwarding.Forwarding.abandon.Goals as goal

pub returns-clause-ends : goal.returns-clause-ends
returns-clause-ends c h is = subst (λ (g : Grant). IsOver (posted h g Done)) (sym c.end-pass.ensures.pass) (forwarding_left c.args.self h is)
