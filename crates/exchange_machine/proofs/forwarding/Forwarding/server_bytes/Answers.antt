use Rattle.exchange_machine.proofs.SideLemmas.{forwarding_answer}
use Rattle.exchange_machine.proofs.forwarding.Forwarding.server_bytes.Goals as goal

pub returns-clause-passes : goal.returns-clause-passes
returns-clause-passes c h is = forwarding_answer c.args.self.now c.take-fed.new.self h _ is c.requires.body c.requires.first c.take-fed.ensures.hears c.take-fed.ensures.grows
