use Rattle.std.proofs.Common.{ap}
use Rattle.exchange_machine.specs.declared.forwarding.Forwarding.{Forwarding}
use Rattle.exchange_events.proofs.relaying.body_goes_on.Goals as goal

pub returns-clause-does : goal.returns-clause-does
returns-clause-does c = λ at.
    let used = c.use_answer_held.ensures in (
      c.use_answer_held.new.self,
      used.uses,
      used.body,
      ap (λ (p : Forwarding). p.up) used.only,
      ap (λ (p : Forwarding). p.up_held) used.only,
      used.all,
      used.passes,
      c.body_is_used.ensures.does,
    )
