use Rattle.exchange_machine.proofs.EventLemmas.{ended_reason}
use Rattle.exchange_machine.proofs.forwarding.Forwarding.refuse_unanswered.Goals as goal

pub returns-clause-leaves : goal.returns-clause-leaves
returns-clause-leaves c h is = c.refuse.ensures.leaves h is (ended_reason h.signs c.args.self.view is.behind h.server_in (is.ended c.requires.ended))
