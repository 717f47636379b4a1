use Rattle.std.proofs.Common.{[], sym, subst}
use Rattle.exchange_machine.specs.Histories.{ExchangeHistory}
use Rattle.exchange_machine.specs.Stages.{IsForwarding}
use Rattle.exchange_events.proofs.StepLemmas.{none_of_server}
use Rattle.exchange_events.proofs.calls.take_answer.Goals as goal

pub returns-in-Err-clause-passes : goal.returns-in-Err-clause-passes
returns-in-Err-clause-passes c h is = subst (λ (g : ExchangeHistory). IsForwarding c.server_head_bytes.new.self g) (sym (none_of_server h [])) (c.in-Err.ensures.err h is)
