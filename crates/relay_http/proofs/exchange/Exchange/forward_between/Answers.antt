use Rattle.std.proofs.Common.{◌∙◌}
use Rattle.http_texts.specs.Messages.{LacksForwarded}
use Rattle.relay_http.specs.Wants.{WantsBody}
use Rattle.relay_http.proofs.Failing.{fails_after}
use Rattle.relay_http.proofs.Turning.{moves_turns, fails_turns, fails_spent}
use Rattle.relay_http.proofs.exchange.Exchange.forward_between.Goals as goal

pub returns-in-Err-clause-err : goal.returns-in-Err-clause-err
unfolding fails_after
returns-in-Err-clause-err g c =
    let part = c.in-Err.ensures.err in
    λ open_still. (
      part.0,
      part.1,
      part.2,
      fails_after (LacksForwarded c.args.view.now) (WantsBody c.args.view.now) c.hold.new.self (c.hold.ensures.turns ∙ c.forget_waiting.ensures.turns) part.3,
      part.4,
      part.5,
    )

pub returns-in-Ok-clause-same_source : goal.returns-in-Ok-clause-same_source
returns-in-Ok-clause-same_source g c = c.in-Ok.ensures.ok.3.reads.same_source

pub returns-in-Ok-clause-same_sink : goal.returns-in-Ok-clause-same_sink
returns-in-Ok-clause-same_sink g c = c.in-Ok.ensures.ok.3.reads.same_sink

pub returns-in-Err-clause-same_source : goal.returns-in-Err-clause-same_source
returns-in-Err-clause-same_source g c = c.in-Err.ensures.err.3.reads.same_source

pub returns-in-Err-clause-same_sink : goal.returns-in-Err-clause-same_sink
returns-in-Err-clause-same_sink g c = c.in-Err.ensures.err.3.reads.same_sink

pub returns-in-Ok-clause-turns : goal.returns-in-Ok-clause-turns
returns-in-Ok-clause-turns g c = moves_turns c.in-Ok.ensures.ok.3

pub returns-in-Err-clause-turns : goal.returns-in-Err-clause-turns
returns-in-Err-clause-turns g c =
    let after = fails_after (LacksForwarded c.args.view.now) (WantsBody c.args.view.now) c.hold.new.self (c.hold.ensures.turns ∙ c.forget_waiting.ensures.turns) c.in-Err.ensures.err.3 in
    fails_turns after

pub returns-in-Err-clause-spent : goal.returns-in-Err-clause-spent
returns-in-Err-clause-spent g c = λ is.
    let after = fails_after (LacksForwarded c.args.view.now) (WantsBody c.args.view.now) c.hold.new.self (c.hold.ensures.turns ∙ c.forget_waiting.ensures.turns) c.in-Err.ensures.err.3 in
    fails_spent c.in-Err.fault after is
