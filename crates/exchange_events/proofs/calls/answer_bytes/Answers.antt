use Rattle.std.proofs.Common.{◌∙◌}
use Rattle.exchange_events.proofs.calls.answer_bytes.Goals as goal

pub returns-clause-does : goal.returns-clause-does
returns-clause-does c =
    let took = c.take_answer-used.ensures in (
      c.take_answer-used.new.forwarding,
      record { by = record { uses = took.uses; stays = λ at. took.phase ∙ at; history = took.passes }; body = took.all; held = took.held },
      c.go_on-next.ensures.judged,
    )
