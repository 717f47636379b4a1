use Rattle.std.proofs.Common.{refl}
use Rattle.exchange_machine.proofs.SideLemmas.{forwarding_held, forwarding_held_none}
use Rattle.exchange_machine.proofs.forwarding.Forwarding.server_head_bytes.Goals as goal

pub returns-in-Ok-clause-passes : goal.returns-in-Ok-clause-passes
returns-in-Ok-clause-passes c h is = forwarding_held c.args.self.now _ h _ is c.in-Ok.ensures.items _ c.looks_again-self.ensures refl

pub returns-in-Err-clause-err : goal.returns-in-Err-clause-err
returns-in-Err-clause-err c h is = forwarding_held_none c.args.self.now _ h is c.in-Err.ensures.items refl refl
