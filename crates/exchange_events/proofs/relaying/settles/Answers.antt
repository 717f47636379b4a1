use Rattle.std.proofs.Common.{subst}
use Rattle.base_verdict.specs.declared.Ending.TheVariants.{Done}
use Rattle.exchange_machine.specs.Histories.{posted}
use Rattle.exchange_machine.specs.Settlings.{IsRest}
use Rattle.exchange_machine.specs.declared.ending.Rest.{Rest}
use Rattle.exchange_events.proofs.relaying.settles.Goals as goal

pub returns-in-Leaving-clause-at : goal.returns-in-Leaving-clause-at
returns-in-Leaving-clause-at c h is = subst (λ (r : Rest). IsRest r (posted h c.settle-pass.result.pass Done)) c.in-Leaving.is
    (c.settle-pass.ensures.ends h is)
