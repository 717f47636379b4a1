use Rattle.exchange_machine.proofs.SideLemmas.{forwarding_more}
use Rattle.exchange_machine.proofs.forwarding.Forwarding.client_bytes.Goals as goal

pub returns-clause-passes : goal.returns-clause-passes
returns-clause-passes c h is none = forwarding_more c.args.self.now c.take-fed.new.self h _ is none c.take-fed.ensures.hears
