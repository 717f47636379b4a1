use Rattle.std.proofs.Common.{◌∙◌}
use Rattle.exchange_events.proofs.calls.request_bytes.Goals as goal

pub returns-clause-does : goal.returns-clause-does
returns-clause-does c =
    let took = c.take_request-used.ensures in (
      c.take_request-used.new.forwarding,
      record { by = record { uses = took.uses; stays = λ at. took.phase ∙ at; history = took.passes }; cut = took.cut; all = took.all },
      c.go_on-next.ensures.judged,
    )
